use Rattle.std.proofs.Common.{length, Ok, sym, ap, subst, ◌∙◌, arith}
use Rattle.std.proofs.lemmas.Result.{err_from_is_err_and}
use Rattle.calls.specs.Benches.{Seated}
use Rattle.plan.specs.Planned.{Planned}
use Rattle.exports.proofs.Answered.{unlabelled_is}
use Rattle.exports.proofs.planning.label.Goals as goal

pub returns-in_err-plan : goal.returns-in_err-plan
returns-in_err-plan c =
    let before = c.args.sets.now in
    let r = c.in_ok-program.ensures in
    let h = c.in_err-plan.ensures in
    let p = err_from_is_err_and c.from_residual-in_err-plan.result c.from_residual-in_err-plan.ensures.1 in
    rw (p.1, p.2) (unlabelled_is c.args.image.now c.in_ok-program.program r (length before) ∙ sym h.answer, h.list)

pub returns : goal.returns
returns c =
    let before = c.args.sets.now in
    let r = c.in_ok-program.ensures in
    let h = c.in_ok-plan.ensures in
    let count = ap (λ x. x.count) c.header.ensures in
    let source = ap (λ s. s.header.count) r.source in (
      unlabelled_is c.args.image.now c.in_ok-program.program r (length before) ∙ sym h.answer,
      omega (arith, count, source),
      subst (λ (s : Seated). Planned (Ok tt) s.header s.code before c.plan.new.list) r.source h.list,
    )
