-- A header that was written is read as the same header.
use Rattle.std.proofs.Common.{◌≡◌, ℕ, zero, suc, ◌+◌, ◌-◌, ◌*◌, ◌/◌, ◌%◌, ◌<◌, Bool, true, false, cond, not, eqb, ltb, leb, List, [], ◌∷◌, ◌++◌, length, get_or, replicate, sym, refl, ap, ◌∙◌, mul-zero, mul-suc, arith}
use Rattle.std.specs.List.{flat_map}
use Rattle.std.proofs.lemmas.List.FromFn.{fill_by_all}
use Rattle.std.proofs.lemmas.List.{get_or_append_left, get_or-append_right, get_or-append-add, get_or-replicate}
use Rattle.std.proofs.lemmas.Bool.{and_from, and_parts, eqb-true, leb-true, eq-eqb, le-leb}
use Rattle.program.specs.declared.header.Header.{Header}
use Rattle.program.specs.declared.header.Table.{Table}
use Rattle.program.specs.declared.header.Kind.{Kind}
use Rattle.program.specs.declared.header.Kind.TheVariants.{Source, Converted}
use Rattle.program.specs.Headers.{kind_of, kind_code, longest, no_table, table_fits, cells_of}
use Rattle.program.specs.Firsts.{all_below}
use Rattle.program.specs.Sound.{SoundHeader}
use Rattle.program.proofs.Firsts.{all_true}
use Rattle.program.proofs.Headers.{longest_short}
use Rattle.header.specs.Layout.{pair_at, table_at, tables_at, header_at, entry_good, zero_from40, header_good, start_bytes, entry_bytes, header_bytes}
use Rattle.header.proofs.Written.{length_start, length_entry, length_front, length_header}

-- byte j of item k, each item w bytes long
pub joined_at : {X : Type 0} (f : X → List ℕ) (w : ℕ) → ((x : X) → length (f x) ≡ w) → (xs : List X) (k j : ℕ) (d : X) → k < length xs → j < w → get_or (flat_map f xs) (w * k + j) 0 ≡ get_or (f (get_or xs k d)) j 0
joined_at f w each [] k j d h l = absurd (omega arith)
joined_at f w each (x ∷ xs) zero j d h l =
    let e : w * 0 + j ≡ j = omega (arith, mul-zero w) in
    ap (λ i. get_or (f x ++ flat_map f xs) i 0) e ∙ get_or_append_left (f x) (flat_map f xs) 0 j (omega (arith, each x))
joined_at f w each (x ∷ xs) (suc k) j d h l =
    let e : w * suc k + j ≡ length (f x) + (w * k + j) = omega (arith, mul-suc w k, each x) in
    ap (λ i. get_or (f x ++ flat_map f xs) i 0) e ∙ get_or-append-add (f x) (flat_map f xs) (w * k + j) 0 ∙ joined_at f w each xs k j d (omega arith) l

pair_bytes : (n : ℕ) → n < 65536 → n % 256 + n / 256 % 256 * 256 ≡ n
pair_bytes n h = omega arith

kind_forth : (k : Kind) → kind_of (kind_code k) ≡ k
kind_forth Source = refl
kind_forth Converted = refl

kind_small : (k : Kind) → leb (kind_code k) 1 ≡ true
kind_small Source = refl
kind_small Converted = refl

label_forth : (b : Bool) → eqb (cond b 1 0) 1 ≡ b
label_forth true = refl
label_forth false = refl

label_small : (b : Bool) → leb (cond b 1 0) 1 ≡ true
label_small true = refl
label_small false = refl

fits_small : (t : Table) (b : Bool) → table_fits t b ≡ true → t.length < 65536
fits_small t true e = let m = leb-true t.length 1024 (and_parts (leb 1 t.length) (leb t.length 1024) e).1 in omega arith
fits_small t false e = let m = eqb-true t.length 0 (and_parts (eqb t.length 0) (not t.secret) e).0 in omega arith

module _ (h : Header) (rest : List ℕ) (sound : SoundHeader h) where
  entry_at : (k j : ℕ) → k < 8 → j < 4 → get_or (header_bytes h ++ rest) (8 + 4 * k + j) 0 ≡ get_or (entry_bytes (get_or h.tables k no_table)) j 0
  unfolding header_bytes
  entry_at k j hk hj =
      let lt : k < length h.tables = omega (arith, sound.eight) in
      let e : 8 + 4 * k + j ≡ length (start_bytes h) + (4 * k + j) = omega (arith, length_start h) in
      get_or_append_left (header_bytes h) rest 0 (8 + 4 * k + j) (omega (arith, length_header h sound.eight))
      ∙ get_or_append_left (start_bytes h ++ flat_map entry_bytes h.tables) (replicate 24 0) 0 (8 + 4 * k + j) (omega (arith, length_front h sound.eight))
      ∙ ap (λ i. get_or (start_bytes h ++ flat_map entry_bytes h.tables) i 0) e
      ∙ get_or-append-add (start_bytes h) (flat_map entry_bytes h.tables) (4 * k + j) 0
      ∙ joined_at entry_bytes 4 length_entry h.tables k j no_table lt hj

  zero_at : (k : ℕ) → k < 24 → get_or (header_bytes h ++ rest) (40 + k) 0 ≡ 0
  unfolding header_bytes
  zero_at k hk =
      get_or_append_left (header_bytes h) rest 0 (40 + k) (omega (arith, length_header h sound.eight))
      ∙ get_or-append_right (start_bytes h ++ flat_map entry_bytes h.tables) (replicate 24 0) 40 (40 + k) 0 (length_front h sound.eight) (omega arith)
      ∙ get_or-replicate 24 (40 + k - 40) 0 0 (omega arith)

  table_reread : (k : ℕ) → k < 8 → table_at (header_bytes h ++ rest) k ≡ get_or h.tables k no_table
  table_reread k hk =
      let bs = header_bytes h ++ rest in
      let t = get_or h.tables k no_table in
      let e0 : 8 + 4 * k ≡ 8 + 4 * k + 0 = omega arith in
      let p0 : get_or bs (8 + 4 * k) 0 ≡ t.length % 256 = ap (λ i. get_or bs i 0) e0 ∙ entry_at k 0 hk (omega arith) in
      let p1 : get_or bs (8 + 4 * k + 1) 0 ≡ t.length / 256 % 256 = entry_at k 1 hk (omega arith) in
      let p2 : get_or bs (8 + 4 * k + 2) 0 ≡ cond t.secret 1 0 = entry_at k 2 hk (omega arith) in
      let len : pair_at bs (8 + 4 * k) ≡ t.length = (λ i. p0 i + p1 i * 256) ∙ pair_bytes t.length (fits_small t (ltb k h.used) (sound.tables k hk)) in
      let secret : eqb (get_or bs (8 + 4 * k + 2) 0) 1 ≡ t.secret = ap (λ x. eqb x 1) p2 ∙ label_forth t.secret in
      λ i. record { length = len i; secret = secret i }

  entry_is_good : (k : ℕ) → k < 8 → entry_good (header_bytes h ++ rest) h.used k ≡ true
  entry_is_good k hk =
      let bs = header_bytes h ++ rest in
      let t = get_or h.tables k no_table in
      and_from (leb (get_or bs (8 + 4 * k + 2) 0) 1) _ (ap (λ x. leb x 1) (entry_at k 2 hk (omega arith)) ∙ label_small t.secret)
      (and_from (eqb (get_or bs (8 + 4 * k + 3) 0) 0) _ (eq-eqb _ _ (entry_at k 3 hk (omega arith)))
      (ap (λ x. table_fits x (ltb k h.used)) (table_reread k hk) ∙ sound.tables k hk))

  tables_reread : tables_at (header_bytes h ++ rest) ≡ h.tables
  unfolding tables_at
  tables_reread = sym (fill_by_all (table_at (header_bytes h ++ rest)) h.tables 8 no_table sound.eight (λ k l. sym (table_reread k l)))

  low_at : get_or (header_bytes h ++ rest) 0 0 ≡ 1
  unfolding header_bytes start_bytes
  low_at = refl

  high_at : get_or (header_bytes h ++ rest) 1 0 ≡ 0
  unfolding header_bytes start_bytes
  high_at = refl

  used_at : get_or (header_bytes h ++ rest) 2 0 ≡ h.used
  unfolding header_bytes start_bytes
  used_at = refl

  kind_at : get_or (header_bytes h ++ rest) 3 0 ≡ kind_code h.kind
  unfolding header_bytes start_bytes
  kind_at = refl

  pub count_at : pair_at (header_bytes h ++ rest) 4 ≡ h.count
  unfolding header_bytes start_bytes
  count_at = pair_bytes h.count (omega (arith, sound.short, longest_short h.kind))

  secret_at : pair_at (header_bytes h ++ rest) 6 ≡ h.secret_entry
  unfolding header_bytes start_bytes
  secret_at = pair_bytes h.secret_entry sound.narrow

  kind_is : kind_of (get_or (header_bytes h ++ rest) 3 0) ≡ h.kind
  kind_is = ap kind_of kind_at ∙ kind_forth h.kind

  pub header_reread : header_at (header_bytes h ++ rest) ≡ h
  unfolding header_at
  header_reread = λ i. record { kind = kind_is i; tables = tables_reread i; used = used_at i; count = count_at i; secret_entry = secret_at i }

  pub header_is_good : header_good (header_bytes h ++ rest) ≡ true
  unfolding header_good
  header_is_good =
      let bs = header_bytes h ++ rest in
      and_from _ _ (eq-eqb (get_or bs 0 0) 1 low_at)
      (and_from _ _ (eq-eqb (get_or bs 1 0) 0 high_at)
      (and_from _ _ (le-leb (get_or bs 2 0) 8 (omega (arith, used_at, sound.few)))
      (and_from _ _ (ap (λ x. leb x 1) kind_at ∙ kind_small h.kind)
      (and_from _ _ (ap (λ u. all_below (entry_good bs u) 8) used_at ∙ all_true (entry_good bs h.used) 8 entry_is_good)
      (and_from _ _ ((λ i. leb (count_at i) (longest (kind_is i))) ∙ le-leb h.count (longest h.kind) sound.short)
      (and_from _ _ (ap (λ ts. leb (cells_of ts) 4096) tables_reread ∙ le-leb (cells_of h.tables) 4096 sound.cells)
      (all_true (zero_from40 bs) 24 (λ k l. eq-eqb _ _ (zero_at k l)))))))))
