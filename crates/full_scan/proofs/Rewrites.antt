-- What has been found, and what the cells are, after some turns.
use Rattle.std.proofs.Common.{◌≡◌, ℕ, ◌+◌, ◌<◌, true, false, cond, eqb, ltb, List, length, get_or, set, sym, refl, ap, ◌∙◌, ⊎_elim, arith, length-set}
use Rattle.std.proofs.lemmas.List.{set-get_or}
use Rattle.std.proofs.lemmas.Bool.{lt-ltb, le-ltb, eq-eqb, ne_eqb, cases_eq, cases_lt, cond-true, cond-false}

-- the word found so far, one offset on
pub found_next : (off n word found v r : ℕ) → (off < n → found ≡ v) → (n ≡ off → word ≡ v) → r ≡ cond (eqb n off) word found → off < n + 1 → r ≡ v
found_next off n word found v r before here e h =
    ⊎_elim (λ s. e ∙ cond-true _ word found (eq-eqb n off s) ∙ here s) (λ s. e ∙ cond-false _ word found (ne_eqb n off s) ∙ before (omega arith)) (cases_eq n off)

-- the cells after n turns of a write
abbrev pub rewritten : List ℕ → ℕ → ℕ → ℕ → ℕ → List ℕ
rewritten cells base off word n = cond (ltb off n) (set cells (base + off) word) cells

pub length-rewritten : (cells : List ℕ) (base off word n : ℕ) → length (rewritten cells base off word n) ≡ length cells
length-rewritten cells base off word n =
    elim (ltb off n) as (λ b. length (cond b (set cells (base + off) word) cells) ≡ length cells) [ true ↦ length-set cells (base + off) word | false ↦ refl ]

-- and one offset on
pub rewritten_next : (cells : List ℕ) (base off word n new : ℕ) → new ≡ cond (eqb n off) word (get_or (rewritten cells base off word n) (base + n) 0) → set (rewritten cells base off word n) (base + n) new ≡ rewritten cells base off word (n + 1)
rewritten_next cells base off word n new e =
    ⊎_elim
    (λ s. let a = le-ltb off n (omega arith) in
    let b = lt-ltb off (n + 1) (omega arith) in
    let w : new ≡ word = e ∙ cond-true _ word _ (eq-eqb n off s) in
    rw (a, b, w, s))
    (λ s. let w : new ≡ get_or (rewritten cells base off word n) (base + n) 0 = e ∙ cond-false _ word _ (ne_eqb n off s) in
    let same : ltb off n ≡ ltb off (n + 1) = ⊎_elim (λ l. lt-ltb off n l ∙ sym (lt-ltb off (n + 1) (omega arith))) (λ l. le-ltb off n l ∙ sym (le-ltb off (n + 1) (omega arith))) (cases_lt off n) in
    ap (set (rewritten cells base off word n) (base + n)) w ∙ set-get_or (rewritten cells base off word n) (base + n) 0 ∙ ap (λ b. cond b (set cells (base + off) word) cells) same)
    (cases_eq n off)
