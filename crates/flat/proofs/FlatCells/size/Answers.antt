use Rattle.std.proofs.Common.{arith}
use Rattle.flat.proofs.Counting.{length_counting}
use Rattle.flat.proofs.FlatCells.size.Goals as goal

pub returns : goal.returns
returns c = let l = length_counting c.args.self.now.cells.items in omega arith
