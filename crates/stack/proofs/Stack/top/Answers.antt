use Rattle.std.proofs.Common.{◌∙◌, take}
use Rattle.stack.proofs.Stacking.{last_top}
use Rattle.stack.proofs.Stack.top.Goals as goal

pub returns : goal.returns
returns g c =
    let s = c.args.self.now in
    c.copied.ensures ∙ c.last.ensures.value ∙ last_top (take s.depth s.cells)
