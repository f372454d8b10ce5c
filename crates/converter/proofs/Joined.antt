-- The parts of a result: a step of the pass, and that they make up the result.
use Rattle.std.proofs.Common.{◌≡◌, ℕ, zero, suc, ◌+◌, ◌<◌, Bool, List, [], ◌∷◌, ◌++◌, length, get_or, take, drop, sum, refl, ap, ◌∙◌, sym, arith, length-append}
use Rattle.std.proofs.lemmas.List.{at_drop_more, append_assoc, take_at, drop_at, drop-drop}
use Rattle.std.proofs.lemmas.List.Sums.{sum_by-cons}
use Rattle.instructions.specs.declared.Instruction.{Instruction}
use Rattle.instructions.specs.declared.Instruction.TheVariants.{Again}
use Rattle.program.specs.declared.opening.Marked.{Marked}
use Rattle.labels.specs.Kinds.{secrecy}
use Rattle.labels.specs.Passes.{opens}
use Rattle.conversion.specs.Conversion.{becomes, convert}
use Rattle.converter.specs.Parts.{part_lengths, part_at}

module _ (long : ℕ → ℕ) (S : ℕ → ℕ → Bool) where
  pub parts_more : (code : List Instruction) (ks js : List (Marked Bool)) (p : ℕ) (i : Instruction) (n : ℕ) (w w' all : List ℕ) → p < length code → i ≡ get_or code p Again → n ≡ length (becomes long (S p) ks p i) → w' ≡ w ++ n ∷ [] → js ≡ opens secrecy (S p) ks p i
      → w ++ part_lengths long S ks p (drop p code) ≡ all → w' ++ part_lengths long S js (p + 1) (drop (p + 1) code) ≡ all
  parts_more code ks js p i n w w' all h x m e f g =
      let z : p + 1 ≡ suc p = omega arith in
      let step : part_lengths long S ks p (drop p code) ≡ length (becomes long (S p) ks p (get_or code p Again)) ∷ part_lengths long S (opens secrecy (S p) ks p (get_or code p Again)) (suc p) (drop (p + 1) code) = at_drop_more (part_lengths long S ks p) code p Again h in
      (λ t. e t ++ part_lengths long S (f t) (z t) (drop (p + 1) code))
      ∙ append_assoc w (n ∷ []) (part_lengths long S (opens secrecy (S p) ks p i) (suc p) (drop (p + 1) code))
      ∙ (λ t. w ++ (m t ∷ part_lengths long S (opens secrecy (S p) ks p i) (suc p) (drop (p + 1) code)))
      ∙ (λ t. w ++ (length (becomes long (S p) ks p (x t)) ∷ part_lengths long S (opens secrecy (S p) ks p (x t)) (suc p) (drop (p + 1) code)))
      ∙ ap (λ l. w ++ l) (sym step)
      ∙ g

  -- no instruction of the result is in no part, and none in two
  pub parts_whole : (code : List Instruction) (ks : List (Marked Bool)) (p : ℕ) → sum (part_lengths long S ks p code) ≡ length (convert long S ks p code)
  parts_whole [] ks p = refl
  parts_whole (i ∷ is) ks p =
      let rest = parts_whole is (opens secrecy (S p) ks p i) (suc p) in
      sum_by-cons (λ n. n) (length (becomes long (S p) ks p i)) (part_lengths long S (opens secrecy (S p) ks p i) (suc p) is)
      ∙ ap (λ n. length (becomes long (S p) ks p i) + n) rest
      ∙ sym (length-append (becomes long (S p) ks p i) (convert long S (opens secrecy (S p) ks p i) (suc p) is))

  -- the part behind the parts of the places before it is what a place becomes
  pub parts_each : (code : List Instruction) (ks : List (Marked Bool)) (p k : ℕ) → k < length code → take (get_or (part_lengths long S ks p code) k 0) (drop (sum (take k (part_lengths long S ks p code))) (convert long S ks p code)) ≡ part_at long S ks p code k
  parts_each [] ks p k h = absurd (omega arith)
  parts_each (i ∷ is) ks p zero h = take_at (becomes long (S p) ks p i) (convert long S (opens secrecy (S p) ks p i) (suc p) is) _ refl
  parts_each (i ∷ is) ks p (suc k) h =
      let js = opens secrecy (S p) ks p i in
      let b = becomes long (S p) ks p i in
      let ls = part_lengths long S js (suc p) is in
      let rest = convert long S js (suc p) is in
      let e : sum (length b ∷ take k ls) ≡ length b + sum (take k ls) = sum_by-cons (λ n. n) (length b) (take k ls) in
      let d : drop (length b + sum (take k ls)) (b ++ rest) ≡ drop (sum (take k ls)) rest = sym (drop-drop (sum (take k ls)) (length b) (b ++ rest)) ∙ ap (drop (sum (take k ls))) (drop_at b rest (length b) refl) in
      (λ t. take (get_or ls k 0) (drop (e t) (b ++ rest))) ∙ ap (take (get_or ls k 0)) d ∙ parts_each is js (suc p) k (omega arith)
