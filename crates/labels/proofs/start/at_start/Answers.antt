use Rattle.std.proofs.Common.{refl}
use Rattle.labels.specs.Kinds.{secrecy}
use Rattle.labels.proofs.Plain.{plain, one_rise}
use Rattle.labels.proofs.Proved.{smallest_exists, theory, arms_by_hand}
use Rattle.labels.proofs.start.at_start.Goals as goal

pub returns : goal.returns
returns c = record { value = refl; plain = plain; rises = one_rise; theory = theory secrecy plain; exists = smallest_exists; arms = arms_by_hand }
