-- A header that was written.
use Rattle.std.proofs.Common.{◌≡◌, ℕ, List, ◌++◌, length, drop, replicate, refl, ◌∙◌, sym, arith, length-append}
use borrow.Rule.Slice.PartMut.{put_mid}
use Rattle.std.specs.List.{flat_map}
use Rattle.std.proofs.lemmas.List.{take_at, drop_at, append_assoc}
use Rattle.program.specs.declared.header.Header.{Header}
use Rattle.program.specs.declared.header.Table.{Table}
use Rattle.header.specs.Layout.{start_bytes, entry_bytes, header_bytes}
use Rattle.header.proofs.Parts.{length_joined}

pub length_start : (h : Header) → length (start_bytes h) ≡ 8
unfolding start_bytes
length_start h = refl

pub length_entry : (t : Table) → length (entry_bytes t) ≡ 4
length_entry t = refl

module _ (h : Header) (eight : length h.tables ≡ 8) where
  pub length_front : length (start_bytes h ++ flat_map entry_bytes h.tables) ≡ 40
  length_front =
      omega (arith, length-append (start_bytes h) (flat_map entry_bytes h.tables), length_start h, length_joined entry_bytes 4 length_entry h.tables)

  pub length_header : length (header_bytes h) ≡ 64
  unfolding header_bytes
  length_header = omega (arith, length-append (start_bytes h ++ flat_map entry_bytes h.tables) (replicate 24 0), length_front)

-- the first values and the entries over 64 zero bytes
pub header_written : (h : Header) (start entries : List ℕ) → start ≡ start_bytes h → entries ≡ flat_map entry_bytes h.tables → put_mid 8 32 (start ++ replicate 56 0) entries ≡ header_bytes h
unfolding header_bytes
header_written h start entries s e =
    let zeros = replicate 56 0 in
    (λ t. put_mid 8 32 (s t ++ zeros) (e t))
    ∙ (λ t. take_at (start_bytes h) zeros 8 (length_start h) t ++ (flat_map entry_bytes h.tables ++ drop 32 (drop_at (start_bytes h) zeros 8 (length_start h) t)))
    ∙ sym (append_assoc (start_bytes h) (flat_map entry_bytes h.tables) (drop 32 zeros))
