use Rattle.std.proofs.Common.{arith}
use Rattle.stack.proofs.Stacking.{items_pop}
use Rattle.stack.proofs.Stack.pop.Goals as goal

pub returns-then-self-gt0 : goal.returns-then-self-gt0
returns-then-self-gt0 g c =
    let s = c.args.self.now in
    items_pop s.cells s.depth c.if-self-gt0.true (omega (arith, s.few, s.room))
