-- What a labelled source becomes carries its labels.
use Rattle.std.proofs.Common.{ℕ, suc, ◌+◌, Bool, true, false, refl, ◌∙◌}
use Rattle.program.specs.Blocks.{Block, done, one, if_then, if_else, loop, fin}
use Rattle.labels.specs.Kinds.{secrecy}
use Rattle.labels.specs.Sets.{either}
use Rattle.labels.specs.Rules.{Sub}
use Rattle.groups.specs.Groups.{mask_at, else_group}
use Rattle.conversion.specs.Trees.{FitBlock, ops, converted}
use Rattle.conversion.specs.Labelling.{Labelled}
use Rattle.secrecy.specs.Carried.{Carried}
use Rattle.secrecy.specs.Converted.{wide, ConvertedCarries}
use Rattle.secrecy.proofs.Public.{sub_refl, either_sub, sub_left, sub_right}
use Rattle.secrecy.proofs.Carried.{weakens}
use Rattle.secrecy.proofs.Groups.{wide_low, wide_sub, op_carries, if_carries, else_carries}

module _ (secret hidden : ℕ → Bool) (S : ℕ → ℕ → Bool) (long : ℕ → ℕ) (used : ℕ) where
  -- a block that may follow where the registers of A, or those past 15, are secret
  abbrev After : (ℕ → Bool) → Block Bool → (ℕ → Bool) → Type 0
  After A k B = Carried secret hidden (wide A) k B

  -- fewer may be secret
  less : (A C B : ℕ → Bool) (k : Block Bool) → Sub secrecy A C → After C k B → After A k B
  less A C B k f c = weakens secret hidden k (wide C) (wide A) B B (wide_sub A C f) (sub_refl B) c

  carries : (b : Block Bool) (s p : ℕ) (k : Block Bool) (B : ℕ → Bool) → FitBlock 16 used b → Labelled secret hidden S s b p
      → After (S (fin b p)) k B → After (S p) (converted long s b p k) B
  carries done s p k B f l c = c
  carries (one op b) s p k B f l c =
      op_carries (S p) secret hidden B (S (suc p)) (converted long s b (suc p) k) (carries b s (suc p) k B f.1 l.2 c) long used s p op f.0 l.0 l.1
  carries (if_then true a t b) s p k B f l c =
      let q = fin t (suc p) in
      let rest = converted long s b (suc q) k in
      let k1 = converted long (suc s) t (suc p) rest in
      let c1 : After (S q) rest B = less (S q) (S (suc q)) B rest l.4 (carries b s (suc q) k B f.2 l.5 c) in
      if_carries (S p) secret hidden B s a k1 (less (S p) (S (suc p)) B k1 l.1 (carries t (suc s) (suc p) rest B f.1 l.3 c1))
  carries (if_then false a t b) s p k B f l c =
      let q = fin t (suc p) in
      let rest = converted long s b (suc q) k in
      let k1 = converted long s t (suc p) done in (
        wide_low (S p) a f.0 ∙ l.0,
        (
          wide (S q),
          less (S p) (S (suc p)) (wide (S q)) k1 l.1 (carries t s (suc p) done (wide (S q)) f.1 l.3 (sub_refl (wide (S q)))),
          wide_sub (S p) (S q) l.2,
          less (S q) (S (suc q)) B rest l.4 (carries b s (suc q) k B f.2 l.5 c),
        ),
      )
  carries (if_else true a t e b) s p k B f l c =
      let q = fin t (suc p) in
      let r = fin e (suc q) in
      let rest = converted long s b (suc r) k in
      let k2 = converted long (suc s) e (suc q) rest in
      let k1 = ops (else_group (mask_at s) (16 + s)) k2 in
      let k0 = converted long (suc s) t (suc p) k1 in
      let c3 : After (S r) rest B = less (S r) (S (suc r)) B rest l.7 (carries b s (suc r) k B f.3 l.8 c) in
      let c2 : After (S q) k2 B = less (S q) (S (suc q)) B k2 (l.3 refl) (carries e (suc s) (suc q) rest B f.2 l.6 c3) in
      let c1 : After (S q) k1 B = else_carries (S q) secret hidden B s k2 c2 in
      if_carries (S p) secret hidden B s a k0 (less (S p) (S (suc p)) B k0 l.1 (carries t (suc s) (suc p) k1 B f.1 l.5 c1))
  carries (if_else false a t e b) s p k B f l c =
      let q = fin t (suc p) in
      let r = fin e (suc q) in
      let rest = converted long s b (suc r) k in
      let k1 = converted long s t (suc p) done in
      let k2 = converted long s e (suc q) done in (
        wide_low (S p) a f.0 ∙ l.0,
        (
          wide (S r),
          less (S p) (S (suc p)) (wide (S r)) k1 l.1 (carries t s (suc p) done (wide (S r)) f.1 l.5 (wide_sub (S q) (S r) l.4)),
          less (S p) (S (suc q)) (wide (S r)) k2 l.2 (carries e s (suc q) done (wide (S r)) f.2 l.6 (sub_refl (wide (S r)))),
          less (S r) (S (suc r)) B rest l.7 (carries b s (suc r) k B f.3 l.8 c),
        ),
      )
  carries (loop a n t b) s p k B f l c =
      let q = fin t (suc p) in
      let C = either (S p) (S q) in
      let rest = converted long s b (suc q) k in
      let k1 = converted long s t (suc p) done in (
        wide_low (S p) a f.0 ∙ l.0,
        (
          wide C,
          wide_sub (S p) C (sub_left (S p) (S q)),
          less C (S (suc p)) (wide C) k1 (either_sub (S p) (S q) (S (suc p)) l.1 l.3) (carries t s (suc p) done (wide C) f.1 l.5 (wide_sub (S q) C (sub_right (S p) (S q)))),
          less C (S (suc q)) B rest (either_sub (S p) (S q) (S (suc q)) l.2 l.4) (carries b s (suc q) k B f.2 l.6 c),
        ),
      )

pub converted_carries : ConvertedCarries
converted_carries secret hidden S long used b f l =
    carries secret hidden S long used b 0 0 done (wide (S (fin b 0))) f l (sub_refl (wide (S (fin b 0))))
