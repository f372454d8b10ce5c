-- A list in chunks of n elements, and the entries of a header among its chunks.
use Rattle.std.proofs.Common.{◌≡◌, ℕ, zero, suc, ◌+◌, ◌*◌, ◌/◌, ◌<◌, eqb, ltb, leb, ◌&&◌, List, [], length, get_or, take, drop, sym, ap, ◌∙◌, mul-zero, mul-suc, arith, length-drop, get_or-take, get_or-drop}
use Rattle.std.proofs.lemmas.List.{drop-drop, length-take-le}
use Rattle.std.specs.Simd.{first_chunks}
use Rattle.program.specs.Headers.{table_fits}
use Rattle.header.specs.Layout.{table_of, table_at, entry_fits, entry_good}

pub chunk_at : {X : Type 0} (n k : ℕ) (xs : List X) (i : ℕ) (d : List X) → i < k → get_or (first_chunks n k xs) i d ≡ take n (drop (n * i) xs)
chunk_at n zero xs i d h = absurd (omega arith)
chunk_at n (suc k) xs zero d h = ap (λ m. take n (drop m xs)) (sym (mul-zero n))
chunk_at n (suc k) xs (suc i) d h =
    let e : n + n * i ≡ n * suc i = omega (arith, mul-suc n i) in
    chunk_at n k (drop n xs) i d (omega arith) ∙ ap (take n) (drop-drop (n * i) n xs ∙ ap (λ m. drop m xs) e)

-- element j of chunk i
pub in_chunk : (n k : ℕ) (xs : List ℕ) (i j : ℕ) (d : List ℕ) → i < k → j < n → get_or (get_or (first_chunks n k xs) i d) j 0 ≡ get_or xs (n * i + j) 0
in_chunk n k xs i j d h l = ap (λ c. get_or c j 0) (chunk_at n k xs i d h) ∙ get_or-take n (drop (n * i) xs) j 0 l ∙ get_or-drop (n * i) xs j 0

-- the four bytes of an entry
module _ (bs e : List ℕ) (i : ℕ) (each : (j : ℕ) → j < 4 → get_or e j 0 ≡ get_or bs (8 + 4 * i + j) 0) where
  byte_at : (j k : ℕ) → j < 4 → 8 + 4 * i + j ≡ k → get_or e j 0 ≡ get_or bs k 0
  byte_at j k h q = each j h ∙ ap (λ m. get_or bs m 0) q

  pub entry_table : table_of e ≡ table_at bs i
  entry_table =
      let p0 = byte_at 0 (8 + 4 * i) (omega arith) (omega arith) in
      let p1 = each 1 (omega arith) in
      let p2 = each 2 (omega arith) in
      λ t. record { length = p0 t + p1 t * 256; secret = eqb (p2 t) 1 }

  pub entry_is : (used : ℕ) → entry_fits e (ltb i used) ≡ entry_good bs used i
  entry_is used =
      let p2 = each 2 (omega arith) in
      let p3 = each 3 (omega arith) in
      λ t. leb (p2 t) 1 && (eqb (p3 t) 0 && table_fits (entry_table t) (ltb i used))

-- the eight entries of a header
module _ (bs : List ℕ) (es : List (List ℕ)) (long : length bs ≡ 64) (cut : es ≡ first_chunks 4 (length (take 32 (drop 8 bs)) / 4) (take 32 (drop 8 bs))) where
  many : length (take 32 (drop 8 bs)) / 4 ≡ 8
  many = let e : length (take 32 (drop 8 bs)) ≡ 32 = length-take-le 32 (drop 8 bs) (omega (arith, length-drop 8 bs)) in omega arith

  each : (i : ℕ) → i < 8 → (j : ℕ) → j < 4 → get_or (get_or es i []) j 0 ≡ get_or bs (8 + 4 * i + j) 0
  each i h j l =
      let e : 8 + (4 * i + j) ≡ 8 + 4 * i + j = omega arith in
      ap (λ xs. get_or (get_or xs i []) j 0) cut
      ∙ in_chunk 4 _ (take 32 (drop 8 bs)) i j [] (omega (arith, many)) l
      ∙ get_or-take 32 (drop 8 bs) (4 * i + j) 0 (omega arith)
      ∙ get_or-drop 8 bs (4 * i + j) 0
      ∙ ap (λ m. get_or bs m 0) e

  pub table_read : (i : ℕ) → i < 8 → table_of (get_or es i []) ≡ table_at bs i
  table_read i h = entry_table bs (get_or es i []) i (each i h)

  pub entry_read : (i n used : ℕ) → i < 8 → n ≡ used → entry_fits (get_or es i []) (ltb i n) ≡ entry_good bs used i
  entry_read i n used h e = entry_is bs (get_or es i []) i (each i h) n ∙ ap (λ u. entry_good bs u i) e
