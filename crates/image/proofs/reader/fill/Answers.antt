use Rattle.std.proofs.Common.{vec_items, ap, ◌∙◌, arith}
use Rattle.fields.specs.Codec.{decode}
use Rattle.image.proofs.Loops.{fill_more, fill_end}
use Rattle.image.proofs.reader.fill.Goals as goal

pub loop-place-preserved : goal.loop-place-preserved
loop-place-preserved c =
    fill_more c.args.code.now (vec_items c.args.list.now) (vec_items c.loop-place.list) c.loop-place.place c.into.result c.loop-place-test.true (omega arith) c.loop-place.invariant
    (c.into.ensures ∙ ap decode c.from_bytes.ensures)

pub returns : goal.returns
returns c = fill_end c.args.code.now (vec_items c.args.list.now) (vec_items c.loop-place.list) c.loop-place.place (omega arith) c.loop-place.invariant
