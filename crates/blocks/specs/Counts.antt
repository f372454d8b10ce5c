-- How many blocks a text has.
use Rattle.std.specs.Prelude.{ℕ, ◌+◌, Bool, true, false, cond, not, ◌&&◌, List, [], ◌∷◌, length, nat_eq, codes}
use Rattle.std.specs.List.{starts_with}
use Rattle.std.specs.Str.{bytes_eq}
use Rattle.std.specs.Str.Lines.{lines}

-- with the word that begins a block of the kind
abbrev pub begins : List ℕ → List ℕ → Bool
begins head line = starts_with nat_eq line head

abbrev pub ends : List ℕ → Bool
ends line = bytes_eq line (codes "end")

-- how many blocks come to their end at a line, which is inside of one or of none: one that another begins
-- behind has no end, and a line in no block counts as a block
abbrev pub closed_at : List ℕ → Bool → List ℕ → ℕ
closed_at head inside line = cond (nat_eq (length line) 0) 0 (cond (begins head line) (cond inside 1 0) (cond inside (cond (ends line) 1 0) 1))

-- whether what follows a line is inside of a block
abbrev pub open_after : List ℕ → Bool → List ℕ → Bool
open_after head inside line = cond (nat_eq (length line) 0) inside (cond (begins head line) true (inside && not (ends line)))

-- among lines; one that has no end counts too
abbrev pub blocks_among : List ℕ → Bool → List (List ℕ) → ℕ
blocks_among head inside [] = cond inside 1 0
blocks_among head inside (line ∷ rest) = closed_at head inside line + blocks_among head (open_after head inside line) rest

abbrev pub blocks_in : List ℕ → List ℕ → ℕ
blocks_in head text = blocks_among head false (lines text)
