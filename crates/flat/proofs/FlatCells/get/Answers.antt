use Rattle.std.proofs.Common.{length, sym, ◌∙◌, arith, ◌<◌}
use Rattle.std.proofs.lemmas.List.{get_or_read}
use Rattle.flat.proofs.Counting.{length_counting, get_counting}
use Rattle.flat.proofs.FlatCells.get.Goals as goal

pub index-requires : goal.index-requires
index-requires c =
    let l = length_counting c.args.self.now.cells.items in
    let h = c.requires in
    omega arith

pub returns : goal.returns
returns c =
    let cells = c.args.self.now.cells.items in
    let l = length_counting cells in
    let h = c.requires in
    let lt : c.args.cell < length cells = omega arith in
    get_or_read cells c.args.cell c.index.result.now lt c.index.ensures 0 ∙ sym (get_counting cells c.args.cell h)
