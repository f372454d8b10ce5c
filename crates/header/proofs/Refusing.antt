-- What is refused of a header, from what its first 64 bytes were read as.
use Rattle.std.proofs.Common.{◌≡◌, ℕ, ◌+◌, ◌*◌, ◌≤◌, true, false, cond, eqb, List, length, take, Some, None, Err, Option, sym, ap, ◌∙◌}
use Rattle.std.specs.Option.{ok_or}
use Rattle.std.proofs.lemmas.Bool.{le-leb}
use Rattle.program.specs.declared.header.Header.{Header}
use Rattle.program.specs.declared.refusal.Reason.{Reason}
use Rattle.program.specs.declared.refusal.Reason.TheVariants.{NoHeader, BadHeader, BadLength}
use Rattle.program.specs.Refusals.{refusal, unless, or_else}
use Rattle.header.specs.Layout.{header_good, header_at, header_refusal, pair_at}
use Rattle.header.proofs.Choosing.{cond_none, cond_some}
use Rattle.header.proofs.Fronts.{front_header, front_good}

-- the error in place of no value
pub err_is : {X : Type 0} (o : Option X) (x y : Reason) → o ≡ None → Err x ≡ ok_or o y → x ≡ y
err_is o x y none e = let f = rw none at e in cc

module _ (bs : List ℕ) where
  pub good_refusal : 64 ≤ length bs → header_good bs ≡ true → header_refusal bs ≡ unless (eqb (length bs) (64 + 8 * pair_at bs 4)) BadLength 0
  good_refusal long good =
      (λ t. or_else (unless (le-leb 64 (length bs) long t) NoHeader 0) (or_else (unless (good t) BadHeader 0) (unless (eqb (length bs) (64 + 8 * pair_at bs 4)) BadLength 0)))

  pub count_is : (h : Header) → h ≡ header_at bs → h.count ≡ pair_at bs 4
  unfolding header_at
  count_is h e = ap (λ x. x.count) e

  module _ (front : List ℕ) (o : Option Header) (is : front ≡ take 64 bs) (read : o ≡ cond (header_good front) (Some (header_at front)) None) where
    pub bad_refusal : 64 ≤ length bs → o ≡ None → header_refusal bs ≡ Some (refusal BadHeader 0)
    bad_refusal long none =
        let bad : header_good bs ≡ false = sym (ap header_good is ∙ front_good bs) ∙ cond_none _ _ (sym none ∙ read) in
        (λ t. or_else (unless (le-leb 64 (length bs) long t) NoHeader 0) (or_else (unless (bad t) BadHeader 0) (unless (eqb (length bs) (64 + 8 * pair_at bs 4)) BadLength 0)))

    pub good_header : (h : Header) → o ≡ Some h → (header_good bs ≡ true) × (h ≡ header_at bs)
    good_header h some =
        let both = cond_some (header_good front) (header_at front) h (sym some ∙ read) in
        (sym (ap header_good is ∙ front_good bs) ∙ both.0, both.1 ∙ ap header_at is ∙ front_header bs)
