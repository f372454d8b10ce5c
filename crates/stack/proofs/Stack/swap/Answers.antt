use Rattle.std.proofs.Common.{arith}
use Rattle.stack.proofs.Stacking.{items_swap}
use Rattle.stack.proofs.Stack.swap.Goals as goal

pub returns-then-self-gt0 : goal.returns-then-self-gt0
returns-then-self-gt0 g c =
    let s = c.args.self.now in
    items_swap s.cells s.depth c.args.item (omega arith) (omega (arith, s.few, s.room))
