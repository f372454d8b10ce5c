use Rattle.counted.proofs.Steps.{differs_if_ok}
use Rattle.counted.proofs.differs.Goals as goal

pub returns-clause-counted : goal.returns-clause-counted
returns-clause-counted c n h = differs_if_ok n c.args.report.now c.differs.new.self c.args.note c.differs.result h c.differs.ensures.agree c.differs.ensures.all c.differs.ensures.notes
