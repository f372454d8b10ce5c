-- The cells of four banks, as one list.
use Rattle.std.proofs.Common.{◌≡◌, ℕ, zero, suc, ◌+◌, ◌*◌, ◌/◌, ◌%◌, ◌<◌, ◌≢◌, List, [], length, get_or, set, replicate, sym, refl, ap, ◌∙◌, ⊎_elim, arith}
use Rattle.std.proofs.lemmas.List.FromFn.{length-map-range_with_len, get_or-map-range_with_len}
use Rattle.std.proofs.lemmas.List.{ext_get_or, length-set, length-replicate, get_or-set_same, get_or-set_other}
use Rattle.std.proofs.lemmas.Bool.{cases_eq}
use Rattle.std.proofs.lemmas.Nat.{div_below, mod_below, div-add-mod'}
use Rattle.banked.specs.Banks.{word_at, cells_of}

pub row_below : (c : ℕ) → c < 1024 → c / 4 < 256
row_below c h = div_below c 4 256 (omega arith) (omega arith)

pub length_cells_of : (banks : List (List ℕ)) → length (cells_of banks) ≡ 1024
unfolding cells_of
length_cells_of banks = length-map-range_with_len (word_at banks) 0 1024

pub get_cells_of : (banks : List (List ℕ)) (c : ℕ) → c < 1024 → get_or (cells_of banks) c 0 ≡ word_at banks c
unfolding cells_of
get_cells_of banks c h = get_or-map-range_with_len (word_at banks) 0 1024 c c 0 h (omega arith)

-- the banks with another word at cell c
abbrev pub put : List (List ℕ) → ℕ → ℕ → List (List ℕ)
put banks c word = set banks (c % 4) (set (get_or banks (c % 4) []) (c / 4) word)

module _ (banks : List (List ℕ)) (four : length banks ≡ 4) (long : (b : ℕ) → b < 4 → length (get_or banks b []) ≡ 256) (c word : ℕ) (h : c < 1024) where
  here : word_at (put banks c word) c ≡ word
  here =
      let m = mod_below c 4 (omega arith) in
      let d = row_below c h in
      let l = long (c % 4) m in
      ap (λ xs. get_or xs (c / 4) 0) (get_or-set_same banks (c % 4) (set (get_or banks (c % 4) []) (c / 4) word) [] (omega arith))
      ∙ get_or-set_same (get_or banks (c % 4) []) (c / 4) word 0 (omega arith)

  elsewhere : (k : ℕ) → k ≢ c → word_at (put banks c word) k ≡ word_at banks k
  elsewhere k ne =
      let m = mod_below c 4 (omega arith) in
      ⊎_elim
      (λ e. let p = div-add-mod' k 4 in
      let q = div-add-mod' c 4 in
      let other : k / 4 ≢ c / 4 = λ same. ne (sym p ∙ ap (λ x. x * 4 + k % 4) same ∙ ap (λ x. c / 4 * 4 + x) e ∙ q) in
      ap (λ b. get_or (get_or (put banks c word) b []) (k / 4) 0) e
      ∙ ap (λ xs. get_or xs (k / 4) 0) (get_or-set_same banks (c % 4) (set (get_or banks (c % 4) []) (c / 4) word) [] (omega arith))
      ∙ get_or-set_other (get_or banks (c % 4) []) (c / 4) (k / 4) word 0 other
      ∙ ap (λ b. get_or (get_or banks b []) (k / 4) 0) (sym e))
      (λ n. ap (λ xs. get_or xs (k / 4) 0) (get_or-set_other banks (c % 4) (k % 4) (set (get_or banks (c % 4) []) (c / 4) word) [] n))
      (cases_eq (k % 4) (c % 4))

  pub set_cells_of : cells_of (put banks c word) ≡ set (cells_of banks) c word
  set_cells_of =
      let l = length_cells_of (put banks c word) in
      let o = length_cells_of banks in
      ext_get_or 0 _ _ (l ∙ sym o ∙ sym (length-set (cells_of banks) c word))
      (λ k lt. get_cells_of (put banks c word) k (omega arith)
      ∙ ⊎_elim (λ e. ap (word_at (put banks c word)) e ∙ here ∙ sym (ap (λ i. get_or (set (cells_of banks) c word) i 0) e ∙ get_or-set_same (cells_of banks) c word 0 (omega arith)))
      (λ n. elsewhere k n ∙ sym (get_or-set_other (cells_of banks) c k word 0 n ∙ get_cells_of banks k (omega arith)))
      (cases_eq k c))

zeros : (n i : ℕ) → ◌≡◌ {A = ℕ} (get_or (replicate n 0) i 0) 0
zeros zero i = refl
zeros (suc n) zero = refl
zeros (suc n) (suc i) = zeros n i

zero_at : (b i : ℕ) → ◌≡◌ {A = ℕ} (get_or (get_or (replicate 4 (replicate 256 0)) b []) i 0) 0
zero_at zero i = zeros 256 i
zero_at (suc zero) i = zeros 256 i
zero_at (suc (suc zero)) i = zeros 256 i
zero_at (suc (suc (suc zero))) i = zeros 256 i
zero_at (suc (suc (suc (suc b)))) i = refl

pub cells_of_new : cells_of (replicate 4 (replicate 256 0)) ≡ replicate 1024 0
cells_of_new =
    let b : List (List ℕ) = replicate 4 (replicate 256 0) in
    ext_get_or 0 _ _ (length_cells_of b ∙ sym (length-replicate {A = ℕ} 1024 0))
    (λ k lt. get_cells_of b k (let l = length_cells_of b in omega arith) ∙ zero_at (k % 4) (k / 4) ∙ sym (zeros 1024 k))

pub ruleset cells = (length_cells_of, row_below, get_cells_of, set_cells_of)
