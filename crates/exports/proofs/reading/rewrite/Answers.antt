use Rattle.std.proofs.lemmas.Result.{err_from_is_err_and}
use Rattle.exports.proofs.Answered.{accepted, denied}
use Rattle.exports.proofs.reading.rewrite.Goals as goal

pub returns-in_err-write : goal.returns-in_err-write
returns-in_err-write c =
    let r = c.in_ok-program.ensures in
    let h = c.in_err-write.ensures in
    let p = err_from_is_err_and c.from_residual-in_err-write.result c.from_residual-in_err-write.ensures.1 in
    rw (p.1, p.2) (denied c.in_ok-program.program c.args.image.now r.bytes _ r.accepted c.args.out.now c.write.new.out c.in_err-write.field-0.0 h.answer h.bytes)

pub returns : goal.returns
returns c =
    let r = c.in_ok-program.ensures in
    let h = c.in_ok-write.ensures in
    accepted c.in_ok-program.program c.args.image.now r.bytes _ r.accepted c.args.out.now c.write.new.out c.in_ok-write.field-0 h.answer h.bytes
