-- The steps of the converter's passes.
use Rattle.std.proofs.Common.{◌≡◌, ℕ, suc, ◌+◌, ◌<◌, Bool, List, ◌++◌, length, get_or, drop, None, Option, sym, ap, ◌∙◌, arith}
use Rattle.std.proofs.lemmas.List.{at_drop_more, append_assoc}
use Rattle.instructions.specs.declared.Instruction.{Instruction}
use Rattle.instructions.specs.declared.Instruction.TheVariants.{Again}
use Rattle.program.specs.declared.opening.Marked.{Marked}
use Rattle.program.specs.declared.refusal.Refusal.{Refusal}
use Rattle.labels.specs.Kinds.{secrecy}
use Rattle.labels.specs.Rules.{mask_of}
use Rattle.labels.specs.Passes.{opens}
use Rattle.conversion.specs.Conversion.{becomes, convert}
use Rattle.conversion.specs.Refusing.{wrong, or_later, first_wrong}

module _ (long : ℕ → ℕ) (S : ℕ → ℕ → Bool) (code : List Instruction) where
  pub convert_more : (ks js : List (Marked Bool)) (p : ℕ) (i : Instruction) (w w' all : List Instruction) → p < length code → i ≡ get_or code p Again → w' ≡ w ++ becomes long (S p) ks p i → js ≡ opens secrecy (S p) ks p i
      → w ++ convert long S ks p (drop p code) ≡ all → w' ++ convert long S js (p + 1) (drop (p + 1) code) ≡ all
  convert_more ks js p i w w' all h x e f g =
      let z : p + 1 ≡ suc p = omega arith in
      let step : convert long S ks p (drop p code) ≡ becomes long (S p) ks p (get_or code p Again) ++ convert long S (opens secrecy (S p) ks p (get_or code p Again)) (suc p) (drop (p + 1) code) = at_drop_more (convert long S ks p) code p Again h in
      (λ t. e t ++ convert long S (f t) (z t) (drop (p + 1) code))
      ∙ append_assoc w (becomes long (S p) ks p i) (convert long S (opens secrecy (S p) ks p i) (suc p) (drop (p + 1) code))
      ∙ (λ t. w ++ (becomes long (S p) ks p (x t) ++ convert long S (opens secrecy (S p) ks p (x t)) (suc p) (drop (p + 1) code)))
      ∙ ap (λ l. w ++ l) (sym step)
      ∙ g

module _ (secret hidden : ℕ → Bool) (S : ℕ → ℕ → Bool) (code : List Instruction) where
  wrong_next : (ks : List (Marked Bool)) (p : ℕ) (i : Instruction) → p < length code → i ≡ get_or code p Again
      → first_wrong secret hidden S ks p (drop p code) ≡ or_later secret hidden (wrong secret hidden (S p) (mask_of secrecy ks) i) p (first_wrong secret hidden S (opens secrecy (S p) ks p i) (p + 1) (drop (p + 1) code))
  wrong_next ks p i h x =
      let z : suc p ≡ p + 1 = omega arith in
      let y = sym x in
      let step : first_wrong secret hidden S ks p (drop p code) ≡ or_later secret hidden (wrong secret hidden (S p) (mask_of secrecy ks) (get_or code p Again)) p (first_wrong secret hidden S (opens secrecy (S p) ks p (get_or code p Again)) (suc p) (drop (p + 1) code)) = at_drop_more (first_wrong secret hidden S ks p) code p Again h in
      step ∙ (λ t. or_later secret hidden (wrong secret hidden (S p) (mask_of secrecy ks) (y t)) p (first_wrong secret hidden S (opens secrecy (S p) ks p (y t)) (z t) (drop (p + 1) code)))

  pub wrong_pass : (ks js : List (Marked Bool)) (p : ℕ) (i : Instruction) (m : Bool) (all : Option Refusal) → p < length code → i ≡ get_or code p Again → m ≡ mask_of secrecy ks → None ≡ wrong secret hidden (S p) m i → js ≡ opens secrecy (S p) ks p i
      → first_wrong secret hidden S ks p (drop p code) ≡ all → first_wrong secret hidden S js (p + 1) (drop (p + 1) code) ≡ all
  wrong_pass ks js p i m all h x e f g inv =
      ap (λ j. first_wrong secret hidden S j (p + 1) (drop (p + 1) code)) g
      ∙ ap (λ o. or_later secret hidden o p (first_wrong secret hidden S (opens secrecy (S p) ks p i) (p + 1) (drop (p + 1) code))) (f ∙ ap (λ b. wrong secret hidden (S p) b i) e)
      ∙ sym (wrong_next ks p i h x) ∙ inv
