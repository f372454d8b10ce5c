-- A memory with cells of its own: each access shows one mark, by the number of the cell.
use Rattle.std.specs.Prelude.{ℕ, ◌+◌, min, false, List, [], ◌∷◌, length, take}
use Rattle.memory.specs.Description.{Mark, Rules, Description}

-- the limit that a list of this length gives
abbrev pub limit_of : List Mark → ℕ
limit_of list = min (length list) 1000000

abbrev pub leaf_rules : (ℕ → Mark) → ℕ → Rules
leaf_rules mark limit = record { limit = limit; shows = λ k base len off. mark (base + off) ∷ []; cost = λ k len. 1; hides = false }

-- the cells, and the list that was handed in with how many of its entries count
abbrev pub leaf : (ℕ → Mark) → List ℕ → List Mark → ℕ → Description
leaf mark cells list count = record { cells = cells; seen = take count list; rules = leaf_rules mark (limit_of list) }
