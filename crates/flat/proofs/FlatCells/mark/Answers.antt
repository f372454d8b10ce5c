use Rattle.std.proofs.Common.{arith}
use Rattle.flat.proofs.Counting.{length_counting}
use Rattle.flat.proofs.FlatCells.mark.Goals as goal

pub overflow_cast-result : goal.overflow_cast-result
overflow_cast-result c =
    let l = length_counting c.args.self.now.cells.items in
    let h = c.requires in
    record { fits = omega arith }
