-- Cells beyond all tables, which no run changes.
use Rattle.std.specs.Prelude.{◌≡◌, ℕ, ◌≤◌, List}
use Rattle.program.specs.declared.header.Table.{Table}
use Rattle.program.specs.Headers.{cells_of}
use Rattle.program.specs.Blocks.{Block}
use Rattle.machine.specs.declared.repeat.OpenRepeat.{OpenRepeat}
use Rattle.machine.specs.States.{State}
use Rattle.machine.specs.Machine.{state_of, land}
use Rattle.machine.specs.Nested.{exec}

-- they stay as they were, whether the run comes to the end or to a fault
abbrev pub BeyondStays : Type 0 → Type 0
BeyondStays Note =
    (tables : List Table) (b : Block Note) (p q c : ℕ) (fs : List OpenRepeat) (s : State) → cells_of tables ≤ c
    → (state_of (land (exec tables b p s) q fs)).cells c ≡ s.cells c
