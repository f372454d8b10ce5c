use Rattle.std.proofs.Common.{refl}
use Rattle.counted.proofs.Steps.{one_agrees}
use Rattle.counted.proofs.agrees.Goals as goal

pub returns-clause-counted : goal.returns-clause-counted
returns-clause-counted c n h = one_agrees n c.args.report.now _ h c.count.ensures.agree c.count.ensures.all refl
