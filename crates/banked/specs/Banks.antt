-- A memory of four banks of 256 rows, which shows only the row of each cell.
use Rattle.std.specs.Prelude.{ℕ, ◌/◌, ◌%◌, List, [], map, slice_index, slice_index_or}
use Rattle.std.specs.List.{range_with_len}

abbrev pub row_of : ℕ → ℕ
row_of cell = cell / 4

abbrev pub bank_of : ℕ → ℕ
bank_of cell = cell % 4

-- what a cell holds: the word in its row of its bank
abbrev pub word_at : List (List ℕ) → ℕ → ℕ
word_at banks cell = slice_index (slice_index_or banks (bank_of cell) []) (row_of cell)

-- the cells, in the order of their numbers
unfoldable pub cells_of : List (List ℕ) → List ℕ
cells_of banks = map (word_at banks) (range_with_len 0 1024)
