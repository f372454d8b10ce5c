-- A header that was read is written as the same bytes, and keeps what every header keeps.
use Rattle.std.proofs.Common.{◌≡◌, ℕ, zero, suc, ◌+◌, ◌*◌, ◌/◌, ◌%◌, ◌<◌, ◌≤◌, true, cond, eqb, ltb, leb, List, [], ◌∷◌, ◌++◌, map, length, get_or, take, drop, replicate, sym, refl, ap, ◌∙◌, mul-zero, mul-one, mul-add, add-one, arith, length-drop, get_or-drop, get_or-take, take-add}
use Rattle.std.specs.List.{range_with_len, flat_map}
use Rattle.std.proofs.lemmas.List.FromFn.{fill_by_all, map-range_with_len_more, length-map-range_with_len, get_or-map-range_with_len}
use Rattle.std.proofs.lemmas.List.{length-take-le, drop-drop, flat_map_more}
use Rattle.std.proofs.lemmas.Bool.{and_parts, eqb-true, leb-true}
use Rattle.program.specs.Headers.{kind_of, kind_code, longest, no_table, table_fits, cells_of}
use Rattle.program.specs.Firsts.{all_below}
use Rattle.program.specs.Sound.{SoundHeader}
use Rattle.program.proofs.Firsts.{all_tells}
use Rattle.header.specs.Layout.{pair_at, table_at, tables_at, header_at, entry_good, zero_from40, header_good, start_bytes, entry_bytes, header_bytes}

-- each is a byte
abbrev pub Bytes : List ℕ → Type 0
Bytes bs = (k : ℕ) → get_or bs k 0 < 256

-- w bytes from place i, one by one
pub chunk_is : (bs : List ℕ) (i w : ℕ) → i + w ≤ length bs → take w (drop i bs) ≡ map (λ j. get_or bs (i + j) 0) (range_with_len 0 w)
chunk_is bs i w h =
    let long : w ≤ length (drop i bs) = omega (arith, length-drop i bs) in
    fill_by_all (λ j. get_or bs (i + j) 0) (take w (drop i bs)) w 0 (length-take-le w (drop i bs) long) (λ k l. get_or-take w (drop i bs) k 0 l ∙ get_or-drop i bs k 0)

joined_map : {X : Type 0} (g : X → List ℕ) (f : ℕ → X) (ks : List ℕ) → flat_map g (map f ks) ≡ flat_map (λ l. l) (map (λ k. g (f k)) ks)
joined_map g f [] = refl
joined_map g f (k ∷ ks) = ap (λ l. g (f k) ++ l) (joined_map g f ks)

parts_are : (f : ℕ → List ℕ) (w b : ℕ) (bs : List ℕ) (n : ℕ) → ((k : ℕ) → k < n → f k ≡ take w (drop (b + w * k) bs)) → flat_map (λ l. l) (map f (range_with_len 0 n)) ≡ take (w * n) (drop b bs)
parts_are f w b bs zero each = ap (λ m. take m (drop b bs)) (sym (mul-zero w))
parts_are f w b bs (suc n) each =
    let more : w * n + w ≡ w * suc n = omega (arith, mul-add w n 1, mul-one w, ap (λ m. w * m) (add-one n)) in
    let last : f n ≡ take w (drop (w * n) (drop b bs)) = each n (omega arith) ∙ ap (take w) (sym (drop-drop (w * n) b bs)) in
    ap (λ m. flat_map (λ l. l) (map f (range_with_len 0 m))) (sym (add-one n))
    ∙ ap (flat_map (λ l. l)) (map-range_with_len_more f 0 n n (omega arith))
    ∙ sym (flat_map_more (λ l. l) [] (map f (range_with_len 0 n)) (f n))
    ∙ (λ t. parts_are f w b bs n (λ k h. each k (omega arith)) t ++ last t)
    ∙ sym (take-add (w * n) w (drop b bs))
    ∙ ap (λ m. take m (drop b bs)) more

-- n items of w bytes each, one after another from place b
pub items_are : {X : Type 0} (g : X → List ℕ) (f : ℕ → X) (w b : ℕ) (bs : List ℕ) (n : ℕ) → ((k : ℕ) → k < n → g (f k) ≡ take w (drop (b + w * k) bs)) → flat_map g (map f (range_with_len 0 n)) ≡ take (w * n) (drop b bs)
items_are g f w b bs n each = joined_map g f (range_with_len 0 n) ∙ parts_are (λ k. g (f k)) w b bs n each

kind_back : (c : ℕ) → c ≤ 1 → kind_code (kind_of c) ≡ c
kind_back zero h = refl
kind_back (suc zero) h = refl
kind_back (suc (suc c)) h = absurd (omega arith)

label_back : (c : ℕ) → c ≤ 1 → cond (eqb c 1) 1 0 ≡ c
label_back zero h = refl
label_back (suc zero) h = refl
label_back (suc (suc c)) h = absurd (omega arith)

pair_low : (p q : ℕ) → p < 256 → (p + q * 256) % 256 ≡ p
pair_low p q h = omega arith

pair_high : (p q : ℕ) → p < 256 → q < 256 → (p + q * 256) / 256 % 256 ≡ q
pair_high p q h k = omega arith

-- what a good header's bytes are
record Good (bs : List ℕ) : Type 0 where
  low : get_or bs 0 0 ≡ 1
  high : get_or bs 1 0 ≡ 0
  few : get_or bs 2 0 ≤ 8
  kind : get_or bs 3 0 ≤ 1
  entries : (k : ℕ) → k < 8 → entry_good bs (get_or bs 2 0) k ≡ true
  short : pair_at bs 4 ≤ longest (kind_of (get_or bs 3 0))
  cells : cells_of (tables_at bs) ≤ 4096
  rest : (k : ℕ) → k < 24 → zero_from40 bs k ≡ true

good_is : (bs : List ℕ) → header_good bs ≡ true → Good bs
unfolding header_good
good_is bs e =
    let a = and_parts (eqb (get_or bs 0 0) 1) _ e in
    let b = and_parts (eqb (get_or bs 1 0) 0) _ a.1 in
    let d = and_parts (leb (get_or bs 2 0) 8) _ b.1 in
    let f = and_parts (leb (get_or bs 3 0) 1) _ d.1 in
    let g = and_parts (all_below (entry_good bs (get_or bs 2 0)) 8) _ f.1 in
    let h = and_parts (leb (pair_at bs 4) (longest (kind_of (get_or bs 3 0)))) _ g.1 in
    let i = and_parts (leb (cells_of (tables_at bs)) 4096) (all_below (zero_from40 bs) 24) h.1 in
    record {
      low = eqb-true (get_or bs 0 0) 1 a.0;
      high = eqb-true (get_or bs 1 0) 0 b.0;
      few = leb-true (get_or bs 2 0) 8 d.0;
      kind = leb-true (get_or bs 3 0) 1 f.0;
      entries = all_tells (entry_good bs (get_or bs 2 0)) 8 g.0;
      short = leb-true (pair_at bs 4) (longest (kind_of (get_or bs 3 0))) h.0;
      cells = leb-true (cells_of (tables_at bs)) 4096 i.0;
      rest = all_tells (zero_from40 bs) 24 i.1;
    }

module _ (bs : List ℕ) (small : Bytes bs) where
  module _ (long : 64 ≤ length bs) (good : Good bs) where
    start_back : start_bytes (header_at bs) ≡ take 8 bs
    unfolding start_bytes header_at
    start_back =
        (λ t.
        sym good.low t ∷ sym good.high t ∷ get_or bs 2 0 ∷ kind_back (get_or bs 3 0) good.kind t
        ∷ pair_low (get_or bs 4 0) (get_or bs 5 0) (small 4) t ∷ pair_high (get_or bs 4 0) (get_or bs 5 0) (small 4) (small 5) t
        ∷ pair_low (get_or bs 6 0) (get_or bs 7 0) (small 6) t ∷ pair_high (get_or bs 6 0) (get_or bs 7 0) (small 6) (small 7) t
        ∷ [])
        ∙ sym (chunk_is bs 0 8 (omega arith))

    entry_back : (k : ℕ) → k < 8 → entry_bytes (table_at bs k) ≡ take 4 (drop (8 + 4 * k) bs)
    entry_back k h =
        let a = and_parts (leb (get_or bs (8 + 4 * k + 2) 0) 1) _ (good.entries k h) in
        let b = and_parts (eqb (get_or bs (8 + 4 * k + 3) 0) 0) _ a.1 in
        let label = label_back (get_or bs (8 + 4 * k + 2) 0) (leb-true _ _ a.0) in
        let last = eqb-true (get_or bs (8 + 4 * k + 3) 0) 0 b.0 in
        let e0 : 8 + 4 * k ≡ 8 + 4 * k + 0 = omega arith in
        (λ t.
        (pair_low (get_or bs (8 + 4 * k) 0) (get_or bs (8 + 4 * k + 1) 0) (small _) ∙ ap (λ j. get_or bs j 0) e0) t
        ∷ pair_high (get_or bs (8 + 4 * k) 0) (get_or bs (8 + 4 * k + 1) 0) (small _) (small _) t
        ∷ label t ∷ sym last t ∷ [])
        ∙ sym (chunk_is bs (8 + 4 * k) 4 (omega arith))

    tables_back : flat_map entry_bytes (tables_at bs) ≡ take 32 (drop 8 bs)
    unfolding tables_at
    tables_back = items_are entry_bytes (table_at bs) 4 8 bs 8 entry_back

    zeros_back : replicate 24 0 ≡ take 24 (drop 40 bs)
    zeros_back =
        let room : 24 ≤ length (drop 40 bs) = omega (arith, length-drop 40 bs) in
        sym (fill_by_all (λ _. 0) (take 24 (drop 40 bs)) 24 0 (length-take-le 24 (drop 40 bs) room)
        (λ k h. get_or-take 24 (drop 40 bs) k 0 h ∙ get_or-drop 40 bs k 0 ∙ eqb-true _ _ (good.rest k h)))

    bytes_back : header_bytes (header_at bs) ≡ take 64 bs
    unfolding header_bytes header_at
    bytes_back =
        (λ t. (start_back t ++ tables_back t) ++ zeros_back t)
        ∙ ap (λ l. l ++ take 24 (drop 40 bs)) (sym (take-add 8 32 bs))
        ∙ sym (take-add 40 24 bs)

  pub header_rewritten : 64 ≤ length bs → header_good bs ≡ true → header_bytes (header_at bs) ≡ take 64 bs
  header_rewritten long e = bytes_back long (good_is bs e)

  pub header_sound : header_good bs ≡ true → SoundHeader (header_at bs)
  unfolding header_at tables_at
  header_sound e =
      let good = good_is bs e in
      record {
        eight = length-map-range_with_len (table_at bs) 0 8;
        few = good.few;
        tables = λ i h.
            ap (λ t. table_fits t (ltb i (get_or bs 2 0))) (get_or-map-range_with_len (table_at bs) 0 8 i i no_table h (omega arith))
            ∙ (and_parts (eqb (get_or bs (8 + 4 * i + 3) 0) 0) _ (and_parts (leb (get_or bs (8 + 4 * i + 2) 0) 1) _ (good.entries i h)).1).1;
        cells = good.cells;
        short = good.short;
        narrow = omega (arith, small 6, small 7);
      }
