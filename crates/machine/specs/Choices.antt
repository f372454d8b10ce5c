-- The number of a choice.
use Rattle.std.specs.Prelude.{ℕ}
use Rattle.machine.specs.declared.visit.Choice.{Choice}
use Rattle.machine.specs.declared.visit.Choice.TheVariants.{Onward, Inward, Past, Fault}

abbrev pub number_of : Choice → ℕ
number_of Onward = 0
number_of Inward = 1
number_of Past = 2
number_of Fault = 3
