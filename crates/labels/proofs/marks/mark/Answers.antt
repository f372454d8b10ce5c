use Rattle.std.proofs.Common.{refl}
use Rattle.labels.proofs.Proved.{theory}
use Rattle.labels.proofs.marks.mark.Goals as goal

pub returns : goal.returns
returns g c = record { value = refl; theory = theory }
