use Rattle.std.proofs.Common.{◌-◌}
use Rattle.stack.specs.Held.{held}
use Rattle.program.specs.Programs.{code_of}
use Rattle.counting.specs.Counting.{most_steps}
use Rattle.run.proofs.Going.{At}
use Rattle.run.proofs.go.Given as goal

abbrev pub invariant-turns : goal.invariant-turns
invariant-turns g l =
    At l.program.header.tables (code_of l.program) l.entry (g.M.Memory.model l.initial.memory) l.initial.visits l.steps l.place (held l.state.repeats.open) l.state.registers (g.M.Memory.model l.memory) l.visits

abbrev pub decreases-turns : goal.decreases-turns
decreases-turns g l = most_steps (code_of l.program) - l.steps
