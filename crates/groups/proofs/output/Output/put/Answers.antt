use Rattle.std.proofs.Common.{take, ◌∙◌, arith, length-take}
use Rattle.std.proofs.lemmas.List.{get_or_default}
use Rattle.groups.proofs.Writes.{longer, one_more}
use Rattle.groups.proofs.output.Output.put.Goals as goal

pub copy-requires : goal.copy-requires
copy-requires c =
    let l = c.loop-op in
    let n = longer _ l.self (take l.op-index c.args.ops.now) l.invariant in
    omega (arith, n, length-take l.op-index c.args.ops.now)

pub loop-op-preserved : goal.loop-op-preserved
loop-op-preserved c =
    let l = c.loop-op in
    c.copy.ensures ∙ one_more _ l.self c.args.ops.now l.op-index _ c.loop-op-test.true (get_or_default c.args.ops.now l.op-index _ _ c.loop-op-test.true) l.invariant
