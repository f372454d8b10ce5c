-- Whole runs of programs, by places.
use Rattle.std.specs.Prelude.{◌≡◌, ℕ, ◌≤◌, Bool, List, [], length}
use Rattle.instructions.specs.declared.Instruction.{Instruction}
use Rattle.program.specs.declared.header.Table.{Table}
use Rattle.program.specs.Blocks.{Block, done, flat, depth, fin}
use Rattle.machine.specs.States.{State}
use Rattle.machine.specs.Machine.{go, steps}
use Rattle.counting.specs.Counting.{most_steps}
use Rattle.conversion.specs.Trees.{FitBlock, converted}
use Rattle.conversion.specs.Labelling.{Labelled}
use Rattle.secrecy.specs.Carried.{Carried}
use Rattle.secrecy.specs.Alike.{Alike}
use Rattle.secrecy.specs.Converted.{wide}

-- a run of the code is at its end, in state z, after its most steps
abbrev pub EndsIn : List Table → List Instruction → State → State → Type 0
EndsIn tables code x z = steps tables code (most_steps code) (go 0 [] x) ≡ go (length code) [] z

-- two whole runs of a program whose blocks carry A to B agree under B, if they began so under A
abbrev pub WholeRunsAlike : Type 0 → Type 0
WholeRunsAlike Note =
    (tables : List Table) (secret hidden : ℕ → Bool) (code : List Instruction) (b : Block Note) (A B : ℕ → Bool) (x y z w : State)
    → flat b [] ≡ code → depth b ≤ 8 → most_steps code ≤ 1000000 → Carried secret hidden A b B → Alike tables secret hidden A x y
    → EndsIn tables code x z → EndsIn tables code y w → Alike tables secret hidden B z w

-- two whole runs of what a labelled source becomes agree on what is public at its end, if they began so
abbrev pub ConvertedRunsAlike : Type 0
ConvertedRunsAlike =
    (tables : List Table) (secret hidden : ℕ → Bool) (S : ℕ → ℕ → Bool) (long : ℕ → ℕ) (used : ℕ) (b : Block Bool) (code : List Instruction) (x y z w : State)
    → FitBlock 16 used b → Labelled secret hidden S 0 b 0 → flat (converted long 0 b 0 done) [] ≡ code → depth (converted long 0 b 0 done) ≤ 8
    → most_steps code ≤ 1000000 → Alike tables secret hidden (wide (S 0)) x y → EndsIn tables code x z → EndsIn tables code y w
    → Alike tables secret hidden (wide (S (fin b 0))) z w
