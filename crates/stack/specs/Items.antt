-- A stack of at most eight, as the list of what it holds, the top first.
use Rattle.std.specs.Prelude.{ℕ, List, [], ◌∷◌, reverse, take, Some, None, Option}

abbrev pub items : {X : Type 0} → List X → ℕ → List X
items cells depth = reverse (take depth cells)

abbrev pub top : {X : Type 0} → List X → Option X
top [] = None
top (x ∷ xs) = Some x

abbrev pub below : {X : Type 0} → List X → List X
below [] = []
below (x ∷ xs) = xs

-- another one on top in place of the one there
abbrev pub swapped : {X : Type 0} → X → List X → List X
swapped y [] = []
swapped y (x ∷ xs) = y ∷ xs
