-- A memory with cells of its own, flat or banked.
use Rattle.std.specs.Prelude.{ℕ, List, vec_items}
use Rattle.memory.specs.Description.{Mark, Description}
use Rattle.leaf.specs.Leaves.{leaf}
use Rattle.leaf.specs.declared.Leaf.{Leaf}
use Rattle.flat.specs.Flat.{counting, number_of}
use Rattle.banked.specs.Banks.{cells_of, row_of}
use Rattle.layered.specs.declared.leaves.LeafCells.{LeafCells}
use Rattle.layered.specs.declared.leaves.LeafCells.TheVariants.{Flat, Banked}

-- what the cells hold
abbrev pub words_of : LeafCells → List ℕ
words_of (Flat m) = counting (vec_items m.cells)
words_of (Banked m) = cells_of m.banks

-- the mark that a cell shows
abbrev pub mark_of : LeafCells → ℕ → Mark
mark_of (Flat m) = number_of
mark_of (Banked m) = row_of

abbrev pub leaf_model : Leaf LeafCells → Description
leaf_model m = leaf (mark_of m.cells) (words_of m.cells) (vec_items m.seen.list) m.seen.count
