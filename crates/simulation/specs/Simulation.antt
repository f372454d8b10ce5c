-- Converted blocks never fault, and follow their source.
use Rattle.std.specs.Prelude.{◌≡◌, ℕ, ◌+◌, ◌<◌, ◌≤◌, Bool, List}
use Rattle.program.specs.declared.header.Table.{Table}
use Rattle.program.specs.Blocks.{Block, done, depth}
use Rattle.machine.specs.States.{State}
use Rattle.machine.specs.Machine.{Out, fine, fault, length_of}
use Rattle.machine.specs.Nested.{exec}
use Rattle.groups.specs.Groups.{lengths}
use Rattle.conversion.specs.Trees.{FitBlock, converted}

-- z beside what a source comes to: where that goes on, z has its registers and its cells, and
-- register 24 is 0; where it has a fault, 24 is the place of that fault and one added
abbrev pub Follows : Out → State → Type 0
Follows (fine x) z = ((r : ℕ) → r < 16 → z.registers r ≡ x.registers r) × (z.registers 24 ≡ 0) × (z.cells ≡ x.cells)
Follows (fault p x) z = z.registers 24 ≡ p + 1

-- every table that is used has a cell
abbrev pub Roomy : List Table → ℕ → Type 0
Roomy tables used = (t : ℕ) → t < used → 0 < length_of tables t

-- a block of source place p, converted and run at place q: its own visits are others, and they are
-- not compared
abbrev pub Simulates : Type 0
Simulates =
    (tables : List Table) (used : ℕ) (b : Block Bool) (p q : ℕ) (s : State)
    → Roomy tables used → FitBlock 16 used b → depth b ≤ 8 → s.registers 24 ≡ 0
    → (z : State) × (exec tables (converted (lengths tables) 0 b p done) q s ≡ fine z) × Follows (exec tables b p s) z
