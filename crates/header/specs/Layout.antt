-- The 64 bytes of a header.
use Rattle.std.specs.Prelude.{ℕ, ◌+◌, ◌*◌, ◌/◌, ◌%◌, Bool, cond, ◌&&◌, List, [], ◌∷◌, ◌++◌, map, length, replicate, Option, ◌==◌, nat_le, nat_lt, slice_index}
use Rattle.std.specs.List.{range_with_len, flat_map}
use Rattle.program.specs.declared.header.Header.{Header}
use Rattle.program.specs.declared.header.Table.{Table}
use Rattle.program.specs.declared.refusal.Refusal.{Refusal}
use Rattle.program.specs.declared.refusal.Reason.TheVariants.{NoHeader, BadHeader, BadLength}
use Rattle.program.specs.Refusals.{unless, or_else}
use Rattle.program.specs.Headers.{kind_of, kind_code, longest, table_fits, cells_of}
use Rattle.program.specs.Firsts.{all_below}

-- the number in two bytes, low byte first
abbrev pub pair_at : List ℕ → ℕ → ℕ
pair_at bs i = slice_index bs i + slice_index bs (i + 1) * 256

-- the table of the entry whose four bytes begin at k: length, label
abbrev pub table_from : List ℕ → ℕ → Table
table_from bs k = record { length = pair_at bs k; secret = (slice_index bs (k + 2) == 1) }

-- that entry has the label 0 or 1, a zero byte, and a length that fits its use
abbrev pub entry_from : List ℕ → ℕ → Bool → Bool
entry_from bs k used = nat_le (slice_index bs (k + 2)) 1 && (slice_index bs (k + 3) == 0 && table_fits (table_from bs k) used)

-- four bytes as an entry
abbrev pub table_of : List ℕ → Table
table_of e = table_from e 0

abbrev pub entry_fits : List ℕ → Bool → Bool
entry_fits e used = entry_from e 0 used

-- table entry i of a header
abbrev pub table_at : List ℕ → ℕ → Table
table_at bs i = table_from bs (8 + 4 * i)

unfoldable pub tables_at : List ℕ → List Table
tables_at bs = map (table_at bs) (range_with_len 0 8)

-- bytes 2, 3, 4–5 and 6–7, and the table entries
unfoldable pub header_at : List ℕ → Header
header_at bs = record { kind = kind_of (slice_index bs 3); tables = tables_at bs; used = slice_index bs 2; count = pair_at bs 4; secret_entry = pair_at bs 6 }

abbrev pub entry_good : List ℕ → ℕ → ℕ → Bool
entry_good bs used i = entry_from bs (8 + 4 * i) (nat_lt i used)

abbrev pub zero_from40 : List ℕ → ℕ → Bool
zero_from40 bs i = slice_index bs (40 + i) == 0

-- the edition is 1; at most 8 tables; the kind is 0 or 1; each table entry is good; not too many
-- instructions; at most 4,096 cells; bytes 40 to 63 are zero
unfoldable pub header_good : List ℕ → Bool
header_good bs =
    (slice_index bs 0 == 1)
    && (slice_index bs 1 == 0
    && (nat_le (slice_index bs 2) 8
    && (nat_le (slice_index bs 3) 1
    && (all_below (entry_good bs (slice_index bs 2)) 8
    && (nat_le (pair_at bs 4) (longest (kind_of (slice_index bs 3)))
    && (nat_le (cells_of (tables_at bs)) 4096
    && all_below (zero_from40 bs) 24))))))

-- what the header decides: what is refused first
abbrev pub header_refusal : List ℕ → Option Refusal
header_refusal bs =
    or_else (unless (nat_le 64 (length bs)) NoHeader 0)
    (or_else (unless (header_good bs) BadHeader 0)
    (unless (length bs == 64 + 8 * pair_at bs 4) BadLength 0))

abbrev pub entry_bytes : Table → List ℕ
entry_bytes t = t.length % 256 ∷ t.length / 256 % 256 ∷ cond t.secret 1 0 ∷ 0 ∷ []

unfoldable pub start_bytes : Header → List ℕ
start_bytes h =
    1 ∷ 0 ∷ h.used ∷ kind_code h.kind
    ∷ h.count % 256 ∷ h.count / 256 % 256
    ∷ h.secret_entry % 256 ∷ h.secret_entry / 256 % 256
    ∷ []

-- the 64 bytes that a header is written as
unfoldable pub header_bytes : Header → List ℕ
header_bytes h = start_bytes h ++ flat_map entry_bytes h.tables ++ replicate 24 0
