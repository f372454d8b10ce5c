-- Every pile of up to four layers.
use Rattle.memory.specs.Description.{Description}
use Rattle.std.specs.Prelude.{Option}
use Rattle.leaf.specs.declared.Leaf.{Leaf}
use Rattle.layer.specs.declared.Over.{Over}
use Rattle.layered.specs.declared.chosen.Chosen.{Chosen}
use Rattle.layered.specs.declared.leaves.LeafCells.{LeafCells}
use Rattle.layered.specs.declared.pile.Layers.{Layers}
use Rattle.layered.specs.Layers.{layered, over}
use Rattle.layered.specs.Leaves.{leaf_model}

abbrev pub Layered : Type 0 → Type 0
Layered M = Over (Option Chosen) M

abbrev pub Pile : Type 0
Pile = Layered (Layered (Layered (Layered (Leaf LeafCells))))

abbrev pub pile_model : Pile → Description
pile_model = layered (layered (layered (layered leaf_model)))

abbrev pub leaf_of : Pile → Leaf LeafCells
leaf_of p = p.below.below.below.below

-- what the layers make of a leaf
abbrev pub piled : Layers → Description → Description
piled l d = over l.fourth (over l.third (over l.second (over l.first d)))
