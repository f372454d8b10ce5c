use Rattle.std.proofs.Common.{◌+◌, map, drop, ap, ◌∙◌}
use Rattle.std.proofs.lemmas.Result.{err_from_is_err_and}
use Rattle.program.specs.Openings.{past}
use Rattle.program.specs.Pairing.{wrong, pairing}
use Rattle.brackets.specs.Labelled.{unmarked}
use Rattle.fields.specs.Codec.{decode}
use Rattle.image.specs.Images.{instruction_of}
use Rattle.image.proofs.Loops.{brackets_more, brackets_stop}
use Rattle.image.proofs.reader.check_brackets.Goals as goal

pub returns-in_err-pass : goal.returns-in_err-pass
returns-in_err-pass c =
    let p = err_from_is_err_and c.from_residual.result c.from_residual.ensures.1 in
    let os = unmarked c.loop-place.matcher in
    let here = c.into.ensures ∙ ap decode c.from_bytes.ensures in
    rw (p.1, p.2)
    (brackets_stop c.args.code.now os c.loop-place.place c.loop-place-test.true c.loop-place.invariant c.in_err-pass.field-0.0
    (c.in_err-pass.ensures.answer ∙ ap (wrong os c.loop-place.place) here))

pub loop-place-preserved : goal.loop-place-preserved
loop-place-preserved c =
    let p = c.loop-place.place in
    let os = unmarked c.loop-place.matcher in
    let here = c.into.ensures ∙ ap decode c.from_bytes.ensures in
    ap (λ o. pairing o (p + 1) (drop (p + 1) (map instruction_of c.args.code.now))) (c.in_ok-pass.ensures.bare ∙ ap (λ i. past p i os) here)
    ∙ brackets_more c.args.code.now os p c.loop-place-test.true c.loop-place.invariant (c.in_ok-pass.ensures.answer ∙ ap (wrong os p) here)
