-- A text as pairs of digits.
use Rattle.std.proofs.Common.{◌≡◌, ℕ, zero, suc, ◌+◌, ◌*◌, ◌/◌, ◌<◌, List, [], Some, None, Option, length, get_or, drop, sym, refl, ap, ◌∙◌, arith}
use Rattle.std.proofs.lemmas.List.{get_or-drop, get_or-take}
use Rattle.std.specs.Simd.{first_chunks}
use Rattle.hexadecimal.specs.Spelling.{byte_of, Spells}

digit_at : (text : List ℕ) (n k j i : ℕ) → k < n → j < 2 → i ≡ 2 * k + j → get_or (get_or (first_chunks 2 n text) k []) j 0 ≡ get_or text i 0
digit_at text zero k j i in_range two is = absurd (omega arith)
digit_at text (suc n) zero j i in_range two is = get_or-take 2 text j 0 two ∙ ap (λ m. get_or text m 0) (omega arith)
digit_at text (suc n) (suc k) j i in_range two is =
    digit_at (drop 2 text) n k j (2 * k + j) (omega arith) two refl
    ∙ get_or-drop 2 text (2 * k + j) 0
    ∙ ap (λ m. get_or text m 0) (omega arith)

-- what the digits of a pair stand for
abbrev pub byte_at : List (List ℕ) → ℕ → Option ℕ
byte_at pairs k = byte_of (get_or (get_or pairs k []) 0 0) (get_or (get_or pairs k []) 1 0)

module _ (text : List ℕ) (pairs : List (List ℕ)) (is : pairs ≡ first_chunks 2 (length text / 2) text) where
  pub byte_in : (k : ℕ) → k < length text / 2 → byte_at pairs k ≡ byte_of (get_or text (2 * k) 0) (get_or text (2 * k + 1) 0)
  byte_in k in_range =
      let n = length text / 2 in
      let high : get_or (get_or pairs k []) 0 0 ≡ get_or text (2 * k) 0 = ap (λ p. get_or (get_or p k []) 0 0) is ∙ digit_at text n k 0 (2 * k) in_range (omega arith) (omega arith) in
      let low : get_or (get_or pairs k []) 1 0 ≡ get_or text (2 * k + 1) 0 = ap (λ p. get_or (get_or p k []) 1 0) is ∙ digit_at text n k 1 (2 * k + 1) in_range (omega arith) refl in
      λ t. byte_of (high t) (low t)

  pub spelled : (bytes : List ℕ) → length text ≡ 2 * length bytes → length bytes ≡ length text / 2 → ((k : ℕ) → k < length bytes → byte_at pairs k ≡ Some (get_or bytes k 0)) → Spells text bytes
  spelled bytes long half each = record { long = long; each = λ k in_range. sym (byte_in k (omega arith)) ∙ each k in_range }

  pub not_spelled : (k : ℕ) → k < length text / 2 → byte_at pairs k ≡ None → (bytes : List ℕ) → Spells text bytes → ⊥
  not_spelled k in_range none bytes spells =
      let within : k < length bytes = omega (arith, spells.long) in
      let some = sym (byte_in k in_range ∙ spells.each k within) ∙ none in cc
