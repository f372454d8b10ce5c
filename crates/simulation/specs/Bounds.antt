-- The most that converted blocks count, beside the source and beside what a run counts.
use Rattle.std.specs.Prelude.{◌≡◌, ℕ, ◌+◌, ◌≤◌, Bool, List}
use Rattle.program.specs.declared.header.Table.{Table}
use Rattle.program.specs.Blocks.{Block, done}
use Rattle.machine.specs.States.{State}
use Rattle.machine.specs.Machine.{fine}
use Rattle.machine.specs.Nested.{exec}
use Rattle.machine.specs.Most.{Price, each_step, weigh, most_of}
use Rattle.groups.specs.Groups.{lengths}
use Rattle.conversion.specs.Trees.{converted}
use Rattle.simulation.specs.OneWay.{OneWayBlock}

-- the most steps grow
abbrev pub StepsGrow : Type 0
StepsGrow = (long : ℕ → ℕ) (b : Block Bool) (p : ℕ) → most_of each_step b ≤ most_of each_step (converted long 0 b p done)

-- a run of what one-way blocks become counts the most, whatever is counted
abbrev pub CountsMost : Type 0
CountsMost =
    (w : Price) (tables : List Table) (b : Block Bool) (p q : ℕ) (s z : State)
    → OneWayBlock b → exec tables (converted (lengths tables) 0 b p done) q s ≡ fine z
    → weigh w z.trace ≡ most_of w (converted (lengths tables) 0 b p done) + weigh w s.trace
