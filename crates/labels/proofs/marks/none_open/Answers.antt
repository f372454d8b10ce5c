use Rattle.labels.proofs.Proved.{theory}
use Rattle.labels.proofs.marks.none_open.Goals as goal

pub returns-clause-theory : goal.returns-clause-theory
returns-clause-theory g c = theory
