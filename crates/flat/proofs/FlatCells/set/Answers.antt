use Rattle.std.proofs.Common.{arith}
use Rattle.flat.proofs.Counting.{length_counting, set_counting}
use Rattle.flat.proofs.FlatCells.set.Goals as goal

pub index_mut-requires : goal.index_mut-requires
index_mut-requires c =
    let l = length_counting c.args.self.now.cells.items in
    let h = c.requires in
    omega arith

pub returns-clause-words : goal.returns-clause-words
returns-clause-words c = set_counting c.args.self.now.cells.items c.args.cell c.args.word c.requires
