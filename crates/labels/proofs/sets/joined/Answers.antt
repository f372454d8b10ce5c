use Rattle.std.proofs.Common.{refl}
use Rattle.labels.proofs.Bits.{bits_or}
use Rattle.labels.proofs.sets.joined.Goals as goal

pub returns : goal.returns
returns c = record { value = refl; set = bits_or c.args.left c.args.right }
