use Rattle.brackets.proofs.Nesting.{paired_is_nested}
use Rattle.brackets.proofs.openings.Openings.finish.Goals as goal

pub returns-in-Some-clause-nested : goal.returns-in-Some-clause-nested
returns-in-Some-clause-nested g c = paired_is_nested

pub returns-in-None-clause-nested : goal.returns-in-None-clause-nested
returns-in-None-clause-nested g c = paired_is_nested
