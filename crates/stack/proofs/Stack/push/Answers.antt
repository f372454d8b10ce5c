use Rattle.std.proofs.Common.{sym, arith}
use Rattle.std.proofs.lemmas.Bool.{lt-ltb}
use Rattle.stack.proofs.Stacking.{length-items, items_push}
use Rattle.stack.proofs.Stack.push.Goals as goal

pub returns : goal.returns
returns g c =
    let s = c.args.self.now in
    record {
      room = sym (lt-ltb _ _ (omega (arith, length-items s.cells s.depth (omega (arith, s.few, s.room)))));
      after = items_push s.cells s.depth c.args.item (omega (arith, s.room));
    }
