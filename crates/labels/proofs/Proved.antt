-- The theorems on the smallest labels, and the cases by hand.
use Rattle.std.proofs.Common.{◌≡◌, ℕ, zero, suc, ◌+◌, ◌-◌, ◌*◌, ◌<◌, ◌≤◌, Bool, true, false, List, [], ◌∷◌, length, get_or, drop, replicate, refl, ap, ◌∙◌, subst, arith}
use Rattle.instructions.specs.declared.Instruction.{Instruction}
use Rattle.instructions.specs.declared.Instruction.TheVariants.{Else, Again}
use Rattle.program.specs.declared.opening.Opening.{Opening}
use Rattle.program.specs.declared.opening.Opening.TheVariants.{Then}
use Rattle.program.specs.Openings.{around}
use Rattle.program.specs.Bounds.{bound}
use Rattle.labels.specs.Kinds.{LabelKind, Lawful, secrecy}
use Rattle.labels.specs.Rules.{Each, else_ways, Sub, marked, Along, Keeps, Solves}
use Rattle.labels.specs.Sets.{bits, sets}
use Rattle.labels.specs.Plans.{settled, labels_of}
use Rattle.labels.specs.Theorems.{SmallestExists, Theory, with_const, without_const, ArmsByHand}
use Rattle.labels.proofs.Plain.{plain}
use Rattle.labels.proofs.Solving.{rising, reached, unique}
use Rattle.labels.proofs.Starts.{start_is_entry}
use Rattle.labels.proofs.Heights.{smallest_of_kind}
use Rattle.labels.proofs.Reckoning.{reckoned}

pub smallest_exists : SmallestExists
smallest_exists used tables entry code h b = (reckoned used tables entry code h b).smallest

module _ {L : Type 0} (K : LabelKind L) (laws : Lawful K) where
  second : (S : ℕ → ℕ → L) (c : Bool) (p q a : ℕ) → c ≡ true → Each (Along K S) (else_ways (Then q a) c p) → Sub K (S p) (S (suc p))
  second S true p q a h e = e.1.0
  second S false p q a h e = let z : ◌≡◌ {A = ℕ} 0 1 = cc in absurd (omega arith)

  arms : (tables entry : ℕ → L) (code : List Instruction) (S : ℕ → ℕ → L) → Solves K tables entry code S
      → (p q a : ℕ) (is : List Instruction) (os : List Opening) → drop p code ≡ Else ∷ is → around code p ≡ Then q a ∷ os → K.secret (S q a) ≡ true → Sub K (S p) (S (suc p))
  arms tables entry code S s p q a is os d o c =
      second S (K.secret (S q a)) p q a c (subst (λ x. Keeps K tables S (marked K S x) p Else) o (s.rules p Else is d))

  pub theory : Theory K
  theory = record {
    rising = rising K laws;
    reached = reached K laws;
    exists = λ most rises registers used tables entry code narrow bounds. smallest_of_kind K laws registers (length code + 1) used tables code refl bounds most rises entry narrow;
    unique = unique K laws;
    start = start_is_entry K laws;
    arms = arms;
  }

bound_with : (p : ℕ) → p < length with_const → bound 16 1 (get_or with_const p Again) ≡ true
bound_with zero h = refl
bound_with (suc zero) h = refl
bound_with (suc (suc zero)) h = refl
bound_with (suc (suc (suc zero))) h = refl
bound_with (suc (suc (suc (suc zero)))) h = refl
bound_with (suc (suc (suc (suc (suc p))))) h = refl

bound_without : (p : ℕ) → p < length without_const → bound 16 1 (get_or without_const p Again) ≡ true
bound_without zero h = refl
bound_without (suc zero) h = refl
bound_without (suc (suc zero)) h = refl
bound_without (suc (suc (suc zero))) h = refl
bound_without (suc (suc (suc (suc p)))) h = refl

-- the passes allowed are more than four; how many more is not reckoned
four_below : (most : ℕ) → 4 ≤ most → (k : ℕ) × (most ≡ suc (suc (suc (suc k))))
four_below most h = (most - 4, omega arith)

-- what is reckoned in four passes, whatever number of further ones is allowed, is what is reckoned
in_four : (tables : ℕ → Bool) (entry : ℕ) (code : List Instruction) (reckoned : List ℕ)
    → ((k : ℕ) → settled tables code (suc (suc (suc (suc k)))) (entry ∷ replicate (length code) 0) ≡ reckoned) → labels_of tables entry code ≡ reckoned
unfolding labels_of
in_four tables entry code reckoned h =
    let p = four_below (65536 * (length code + 1)) (omega arith) in
    ap (λ most. settled tables code most (entry ∷ replicate (length code) 0)) p.1 ∙ h p.0

reckoned_with : labels_of (λ t. false) 2 with_const ≡ 2 ∷ 2 ∷ 6 ∷ 6 ∷ 7 ∷ 7 ∷ []
reckoned_with = in_four (λ t. false) 2 with_const (2 ∷ 2 ∷ 6 ∷ 6 ∷ 7 ∷ 7 ∷ []) (λ k. refl)

reckoned_without : labels_of (λ t. false) 2 without_const ≡ 2 ∷ 2 ∷ 2 ∷ 3 ∷ 3 ∷ []
reckoned_without = in_four (λ t. false) 2 without_const (2 ∷ 2 ∷ 2 ∷ 3 ∷ 3 ∷ []) (λ k. refl)

pub arms_by_hand : ArmsByHand
arms_by_hand = record {
  with = λ S s.
      let e = unique secrecy plain (λ t. false) (bits 2) with_const S _ s (smallest_exists 1 (λ t. false) 2 with_const (omega arith) bound_with) ∙ ap sets reckoned_with in
      (ap (λ Z. Z 3 2) e, ap (λ Z. Z 0 2) e);
  without = λ S s.
      let e = unique secrecy plain (λ t. false) (bits 2) without_const S _ s (smallest_exists 1 (λ t. false) 2 without_const (omega arith) bound_without) ∙ ap sets reckoned_without in
      ap (λ Z. Z 2 2) e;
}
