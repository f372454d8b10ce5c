-- A memory over cells that are handed in, which shows the number of each cell.
use Rattle.std.specs.Prelude.{ℕ, List, take}
use Rattle.memory.specs.Description.{Mark, Description}
use Rattle.leaf.specs.Leaves.{leaf}

-- the cells that count, of those that are handed in
abbrev pub counting : List ℕ → List ℕ
counting cells = take 65536 cells

abbrev pub number_of : ℕ → Mark
number_of cell = cell

abbrev pub flat : List ℕ → List Mark → ℕ → Description
flat cells list count = leaf number_of (counting cells) list count
