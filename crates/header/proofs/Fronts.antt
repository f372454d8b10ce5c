-- A header lies in the first 64 bytes: what it is decided by them alone.
use Rattle.std.proofs.Common.{◌≡◌, ℕ, zero, suc, ◌+◌, ◌*◌, ◌<◌, Bool, eqb, ltb, leb, ◌&&◌, List, get_or, take, refl, ap, ◌∙◌, arith, get_or-take}
use Rattle.std.proofs.lemmas.List.FromFn.{fill_by_all, length-map-range_with_len, get_or-map-range_with_len}
use Rattle.program.specs.Headers.{kind_of, longest, no_table, table_fits, cells_of}
use Rattle.program.specs.Firsts.{all_below}
use Rattle.header.specs.Layout.{pair_at, table_at, tables_at, header_at, entry_good, zero_from40, header_good}

all_same : (f g : ℕ → Bool) (n : ℕ) → ((k : ℕ) → k < n → f k ≡ g k) → all_below f n ≡ all_below g n
unfolding all_below
all_same f g zero h = refl
all_same f g (suc n) h = λ t. all_same f g n (λ k l. h k (omega arith)) t && h n (omega arith) t

module _ (bs : List ℕ) where
  at : (k : ℕ) → k < 64 → get_or (take 64 bs) k 0 ≡ get_or bs k 0
  at k h = get_or-take 64 bs k 0 h

  front_table : (i : ℕ) → i < 8 → table_at (take 64 bs) i ≡ table_at bs i
  front_table i h =
      let p0 = at (8 + 4 * i) (omega arith) in
      let p1 = at (8 + 4 * i + 1) (omega arith) in
      let p2 = at (8 + 4 * i + 2) (omega arith) in
      λ t. record { length = p0 t + p1 t * 256; secret = eqb (p2 t) 1 }

  front_entry : (used i : ℕ) → i < 8 → entry_good (take 64 bs) used i ≡ entry_good bs used i
  front_entry used i h =
      let p2 = at (8 + 4 * i + 2) (omega arith) in
      let p3 = at (8 + 4 * i + 3) (omega arith) in
      λ t. leb (p2 t) 1 && (eqb (p3 t) 0 && table_fits (front_table i h t) (ltb i used))

  front_tables : tables_at (take 64 bs) ≡ tables_at bs
  unfolding tables_at
  front_tables =
      fill_by_all (table_at bs) (tables_at (take 64 bs)) 8 no_table (length-map-range_with_len (table_at (take 64 bs)) 0 8)
      (λ k h. get_or-map-range_with_len (table_at (take 64 bs)) 0 8 k k no_table h (omega arith) ∙ front_table k h)

  front_pair : (k : ℕ) → k + 1 < 64 → pair_at (take 64 bs) k ≡ pair_at bs k
  front_pair k h = let p0 = at k (omega arith) in let p1 = at (k + 1) h in λ t. p0 t + p1 t * 256

  pub front_header : header_at (take 64 bs) ≡ header_at bs
  unfolding header_at
  front_header =
      let kind = at 3 (omega arith) in
      let used = at 2 (omega arith) in
      let count = front_pair 4 (omega arith) in
      let secret = front_pair 6 (omega arith) in
      λ t. record { kind = kind_of (kind t); tables = front_tables t; used = used t; count = count t; secret_entry = secret t }

  pub front_good : header_good (take 64 bs) ≡ header_good bs
  unfolding header_good
  front_good =
      let low = at 0 (omega arith) in
      let high = at 1 (omega arith) in
      let used = at 2 (omega arith) in
      let kind = at 3 (omega arith) in
      let entries = ap (λ u. all_below (entry_good (take 64 bs) u) 8) used ∙ all_same (entry_good (take 64 bs) (get_or bs 2 0)) (entry_good bs (get_or bs 2 0)) 8 (front_entry (get_or bs 2 0)) in
      let count = front_pair 4 (omega arith) in
      let zeros = all_same (zero_from40 (take 64 bs)) (zero_from40 bs) 24 (λ k h. ap (λ b. eqb b 0) (at (40 + k) (omega arith))) in
      λ t.
      eqb (low t) 1
      && (eqb (high t) 0
      && (leb (used t) 8
      && (leb (kind t) 1
      && (entries t
      && (leb (count t) (longest (kind_of (kind t)))
      && (leb (cells_of (front_tables t)) 4096
      && zeros t))))))
