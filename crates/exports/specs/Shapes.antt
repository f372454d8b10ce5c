-- The pile of a shape.
use Rattle.std.specs.Prelude.{ℕ, ◌-◌, Bool, true, false, cond, min, List, ◌++◌, length, take, drop, Some, None, Option, nat_eq}
use Rattle.memory.specs.Description.{Description}
use Rattle.layered.specs.declared.chosen.Chosen.{Chosen}
use Rattle.layered.specs.declared.chosen.Chosen.TheVariants.{Scan, Line}
use Rattle.layered.specs.declared.pile.Layers.{Layers}
use Rattle.layered.specs.Piles.{piled}
use Rattle.makes.specs.declared.make.LeafKind.{LeafKind}
use Rattle.makes.specs.declared.make.LeafKind.TheVariants.{Flat, Banked}
use Rattle.makes.specs.Makes.{begins}
use Rattle.exports.specs.declared.running.Shape.{Shape}

-- words in front, as far as there is room
abbrev pub over : List ℕ → List ℕ → List ℕ
over words before = take (length before) words ++ drop (length words) before

abbrev pub chosen : ℕ → Option Chosen
chosen n = cond (nat_eq n 0) None (cond (nat_eq n 1) (Some Scan) (Some (Line (n - 2))))

abbrev pub kind_of : Bool → LeafKind
kind_of true = Banked
kind_of false = Flat

abbrev pub layers_of : Shape → Layers
layers_of s = record { first = chosen s.first; second = chosen s.second; third = chosen s.third; fourth = chosen s.fourth }

abbrev pub pile_for : Shape → List ℕ → Description
pile_for s cells = piled (layers_of s) (begins (kind_of s.banked) (min (length cells) 65536) (min s.list 1000000) cells)
