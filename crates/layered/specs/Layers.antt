-- A memory with a layer on top that is chosen at run time, or with none.
use Rattle.std.specs.Prelude.{min, Option}
use Rattle.memory.specs.Description.{Description}
use Rattle.layer.specs.Optional.{optional}
use Rattle.layer.specs.declared.Over.{Over}
use Rattle.full_scan.specs.Scan.{scan_over}
use Rattle.line.specs.Line.{line_over}
use Rattle.layered.specs.declared.chosen.Chosen.{Chosen}
use Rattle.layered.specs.declared.chosen.Chosen.TheVariants.{Scan, Line}

abbrev pub over_chosen : Chosen → Description → Description
over_chosen Scan d = scan_over d
over_chosen (Line exponent) d = line_over (min exponent 6) d

-- what a layer makes of a memory, or none
abbrev pub over : Option Chosen → Description → Description
over = optional over_chosen

-- what it is, by what the memory below is
abbrev pub layered : {M : Type 0} → (M → Description) → Over (Option Chosen) M → Description
layered model m = over m.layer (model m.below)
