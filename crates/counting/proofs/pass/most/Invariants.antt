use Rattle.stack.specs.Held.{held}
use Rattle.counting.specs.Counting.{priced}
use Rattle.counting.proofs.Adding.{Counted}
use Rattle.counting.proofs.pass.most.Given as goal

abbrev pub invariant-loop-instruction : goal.invariant-loop-instruction
invariant-loop-instruction l = Counted (priced l.prices.step l.prices.tables) l.code l.instruction-index (held l.pass.brackets) l.pass.sum
