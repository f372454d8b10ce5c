use Rattle.std.proofs.Common.{sym, ◌∙◌, arith}
use Rattle.std.proofs.lemmas.Result.{err_from_is_err_and}
use Rattle.header.proofs.Rewritten.{Bytes}
use Rattle.bench.proofs.Longest.{image_fits, read_seated}
use Rattle.exports.proofs.reading.program_of.Goals as goal

pub returns-in_err-read : goal.returns-in_err-read
returns-in_err-read c =
    let h = c.in_err-read.ensures.answer in
    let bytes : Bytes c.args.image.now = λ k. let fits = c.type_inv.image k in omega arith in
    let p = err_from_is_err_and c.from_residual-in_err-read.result c.from_residual-in_err-read.ensures.1 in
    rw (p.1, p.2) (sym (image_fits _ bytes _ c.in_ok-list.ensures) ∙ h.refusal)

pub returns : goal.returns
returns c =
    let h = c.in_ok-read.ensures.answer in
    let bytes : Bytes c.args.image.now = λ k. let fits = c.type_inv.image k in omega arith in
    record {
      accepted = sym (image_fits _ bytes _ c.in_ok-list.ensures) ∙ h.refusal;
      source = read_seated _ c.in_ok-read.field-0 _ h.header h.list;
      bytes = c.in_ok-read.ensures.rewritten;
    }
