-- What is written to the front of a list, and stays behind it.
use Rattle.std.proofs.Common.{◌≡◌, ℕ, zero, suc, ◌≤◌, List, [], ◌∷◌, ◌++◌, length, take, drop, refl, ap, ◌∙◌, append_assoc, arith, length-append, length-drop, take-append-drop}
use Rattle.std.proofs.lemmas.List.{length-take-le}

module _ {X : Type 0} where
  cut : (k m : ℕ) (xs : List X) → k ≤ m → drop k (take m xs) ++ drop m xs ≡ drop k xs
  cut zero m xs h = take-append-drop m xs
  cut (suc k) zero xs h = absurd (omega arith)
  cut (suc k) (suc m) [] h = refl
  cut (suc k) (suc m) (x ∷ xs) h = cut k m xs (omega arith)

  -- written within the first m entries
  pub front_written : (new xs ys : List X) (m : ℕ) → m ≤ length xs → length ys ≡ m → ys ≡ new ++ drop (length new) (take m xs) → ys ++ drop m xs ≡ new ++ drop (length new) xs
  front_written new xs ys m h long e =
      let few : length new ≤ m = omega (arith, ap length e, length-append new (drop (length new) (take m xs)), length-drop (length new) (take m xs), length-take-le m xs h) in
      ap (λ l. l ++ drop m xs) e ∙ append_assoc new (drop (length new) (take m xs)) (drop m xs) ∙ ap (λ l. new ++ l) (cut (length new) m xs few)
