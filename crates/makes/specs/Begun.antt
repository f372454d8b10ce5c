-- Piles at their beginning.
use Rattle.std.specs.Prelude.{◌≡◌, ℕ, List}
use Rattle.layered.specs.Piles.{Pile, pile_model, piled}
use Rattle.makes.specs.declared.make.Make.{Make}
use Rattle.makes.specs.Makes.{begins}

-- the pile is that of the make, with some cells given
abbrev pub Begun : Make → Pile → Type 0
Begun m p = (cells : List ℕ) × (pile_model p ≡ piled m.layers (begins m.kind m.size m.list cells))
