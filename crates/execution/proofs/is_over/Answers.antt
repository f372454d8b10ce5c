use Rattle.execution.proofs.Whole.{runs_end}
use Rattle.execution.proofs.is_over.Goals as goal

pub returns-clause-runs : goal.returns-clause-runs
returns-clause-runs c = runs_end
