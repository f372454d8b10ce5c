-- What conversion keeps, of programs: runs of a result beside runs of its source.
use Rattle.std.specs.Prelude.{◌≡◌, ℕ, ◌+◌, ◌≤◌, Bool, List, [], length}
use Rattle.instructions.specs.declared.Instruction.{Instruction}
use Rattle.program.specs.declared.header.Header.{Header}
use Rattle.program.specs.Sound.{SoundHeader}
use Rattle.memory.specs.declared.Access.{Access}
use Rattle.machine.specs.States.{State}
use Rattle.machine.specs.Machine.{fine, fault, Conf, go, stop, steps, count}
use Rattle.machine.specs.Most.{weigh}
use Rattle.counting.specs.Counting.{most_steps, mark_price, most_marks}
use Rattle.conversion.specs.Sources.{result_by}
use Rattle.conversion.specs.OneWay.{OneWay}
use Rattle.conversion.specs.Trees.{Tree}
use Rattle.simulation.specs.Simulation.{Follows}

-- the most steps grow
abbrev pub ResultStepsGrow : Type 0
ResultStepsGrow = (S : ℕ → ℕ → Bool) (h : Header) (code : List Instruction) → Tree S h code → most_steps code ≤ most_steps (result_by S h code)

-- z beside where a run of the source is
abbrev pub FollowsRun : Conf → State → Type 0
FollowsRun (go p fs x) z = Follows (fine x) z
FollowsRun (stop p x) z = Follows (fault p x) z

-- a whole run of the result comes to its end, and follows the whole run of the source
abbrev pub ResultFollows : Type 0
ResultFollows =
    (S : ℕ → ℕ → Bool) (h : Header) (code : List Instruction) (x : State)
    → SoundHeader h → Tree S h code → most_steps (result_by S h code) ≤ 1000000 → x.registers 24 ≡ 0
    → (z : State)
    × (steps h.tables (result_by S h code) (most_steps (result_by S h code)) (go 0 [] x) ≡ go (length (result_by S h code)) [] z)
    × FollowsRun (steps h.tables code (most_steps code) (go 0 [] x)) z

-- where the source has one way through, that run takes the most steps, and leaves the most marks
abbrev pub ResultCountsMost : Type 0
ResultCountsMost =
    (S : ℕ → ℕ → Bool) (h : Header) (code : List Instruction) (x z : State)
    → Tree S h code → OneWay S 0 code → most_steps (result_by S h code) ≤ 1000000
    → steps h.tables (result_by S h code) (most_steps (result_by S h code)) (go 0 [] x) ≡ go (length (result_by S h code)) [] z
    → (count z.trace ≡ most_steps (result_by S h code) + count x.trace)
    × ((cost : Access → ℕ → ℕ)
    → most_marks cost h.tables (result_by S h code) ≤ 1000000
    → weigh (mark_price cost h.tables) z.trace ≡ most_marks cost h.tables (result_by S h code) + weigh (mark_price cost h.tables) x.trace)
