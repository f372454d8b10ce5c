use Rattle.std.proofs.Common.{rules}
use Rattle.header.specs.Layout.{start_bytes}
use Rattle.header.proofs.encode.start.Goals as goal

pub returns : goal.returns
unfolding start_bytes
returns c = search rules
