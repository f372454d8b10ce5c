use Rattle.std.proofs.Common.{arith}
use Rattle.header.proofs.Parts.{items_none, items_more, items_all}
use Rattle.image.specs.Images.{instruction_bytes}
use Rattle.image.proofs.Trips.{length_instruction}
use Rattle.image.proofs.writer.write_code.Goals as goal

pub loop-i-init : goal.loop-i-init
loop-i-init c = items_none instruction_bytes 8 length_instruction c.args.out.now c.args.code.now

pub loop-i-preserved : goal.loop-i-preserved
loop-i-preserved c =
    items_more instruction_bytes 8 length_instruction c.args.out.now c.args.code.now
    c.loop-i.out c.write_instruction.new.out c.loop-i.i _ _ c.loop-i-test.true c.loop-i.invariant c.write_instruction.ensures (omega arith)

pub returns : goal.returns
returns c = items_all instruction_bytes 8 length_instruction c.args.out.now c.args.code.now c.loop-i.out c.loop-i.i (omega arith) (omega arith) c.loop-i.invariant
