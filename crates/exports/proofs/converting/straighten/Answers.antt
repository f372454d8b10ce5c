use Rattle.std.proofs.Common.{length, refl, ap, sym, ◌∙◌}
use Rattle.std.proofs.lemmas.Result.{err_from_is_err_and}
use Rattle.bench.proofs.Longest.{result_fits}
use Rattle.calls.specs.Calls.{source_at, converted}
use Rattle.exports.specs.Converting.{image_for}
use Rattle.exports.specs.Reading.{unwritten}
use Rattle.exports.proofs.Answered.{crooked_is, converted_is, accepted, denied}
use Rattle.exports.proofs.converting.straighten.Goals as goal

pub returns-in_err-straight : goal.returns-in_err-straight
returns-in_err-straight c =
    let r = c.in_ok-source.ensures in
    let h = c.in_err-straight.ensures.answer in
    let p = err_from_is_err_and c.from_residual-in_err-straight.result c.from_residual-in_err-straight.ensures.1 in
    let image = image_for (converted (source_at c.args.image.now)) in
    let refused = crooked_is c.args.image.now c.in_ok-source.source r c.args.hides ∙ sym (result_fits c.in_ok-source.source c.args.hides _ c.in_ok-list.ensures) ∙ h.refusal in
    rw (p.1, p.2) (ap (λ w. unwritten w (length image) (length c.args.out.now)) refused, refl)

pub returns-in_err-write : goal.returns-in_err-write
returns-in_err-write c =
    let r = c.in_ok-source.ensures in
    let h = c.in_ok-straight.ensures.answer in
    let w = c.in_err-write.ensures in
    let none = crooked_is c.args.image.now c.in_ok-source.source r c.args.hides ∙ sym (result_fits c.in_ok-source.source c.args.hides _ c.in_ok-list.ensures) ∙ h.refusal in
    let is = ap image_for (converted_is c.in_ok-source.source c.in_ok-straight.straight c.args.hides _ h ∙ ap converted r.source) in
    let p = err_from_is_err_and c.from_residual-in_err-write.result c.from_residual-in_err-write.ensures.1 in
    rw (p.1, p.2) (denied c.in_ok-straight.straight (image_for (converted (source_at c.args.image.now))) is _ none c.args.out.now c.write.new.out c.in_err-write.field-0.0 w.answer w.bytes)

pub returns : goal.returns
returns c =
    let r = c.in_ok-source.ensures in
    let h = c.in_ok-straight.ensures.answer in
    let w = c.in_ok-write.ensures in
    let none = crooked_is c.args.image.now c.in_ok-source.source r c.args.hides ∙ sym (result_fits c.in_ok-source.source c.args.hides _ c.in_ok-list.ensures) ∙ h.refusal in
    let is = ap image_for (converted_is c.in_ok-source.source c.in_ok-straight.straight c.args.hides _ h ∙ ap converted r.source) in
    accepted c.in_ok-straight.straight (image_for (converted (source_at c.args.image.now))) is _ none c.args.out.now c.write.new.out c.in_ok-write.field-0 w.answer w.bytes
