use Rattle.std.proofs.Common.{◌≡◌, ◌+◌, ◌*◌, true, false, eqb, length, Some, sym, ap, ◌∙◌, arith}
use Rattle.std.proofs.lemmas.Bool.{eq-eqb, ne_eqb}
use Rattle.std.proofs.lemmas.Result.{err_from_is_err_and}
use Rattle.program.specs.declared.refusal.Reason.TheVariants.{BadHeader, BadLength}
use Rattle.program.specs.Refusals.{unless}
use Rattle.header.specs.Layout.{pair_at}
use Rattle.header.proofs.Refusing.{err_is, good_refusal, count_is, bad_refusal, good_header}
use Rattle.header.proofs.decode.decode.Goals as goal

pub returns-in_err-header-clause-refusal : goal.returns-in_err-header-clause-refusal
returns-in_err-header-clause-refusal c =
    let bs = c.args.image.now in
    let cut = rw c.in_ok-bytes.ensures.ok_part at c.split_first_chunk.ensures.cases in
    let none = c.in_err-header.ensures.ok_part in
    let why = err_is c.header.result c.in_err-header.field-0.0 BadHeader none c.in_err-header.ensures.value in
    let p = err_from_is_err_and c.from_residual-in_err-header.result c.from_residual-in_err-header.ensures.1 in
    rw (p.1, p.2, why) (sym (bad_refusal bs c.in_ok-bytes.bytes.now c.header.result cut.0 c.header.ensures (omega (arith, cut.2)) none))

pub returns-then-code-from-clause-refusal : goal.returns-then-code-from-clause-refusal
returns-then-code-from-clause-refusal c =
    let bs = c.args.image.now in
    let h = c.in_ok-header.header in
    let cut = rw c.in_ok-bytes.ensures.ok_part at c.split_first_chunk.ensures.cases in
    let is = good_header bs c.in_ok-bytes.bytes.now c.header.result cut.0 c.header.ensures h c.in_ok-header.ensures.ok_part in
    let n = count_is bs h is.1 in
    let other : eqb (length bs) (64 + 8 * pair_at bs 4) ≡ false = ne_eqb _ _ (λ e. c.if-code-from.true (omega (arith, e, n, cut.2))) in
    ap (λ e. Some e) c.into.ensures ∙ sym (good_refusal bs (omega (arith, cut.2)) is.0 ∙ ap (λ b. unless b BadLength 0) other)

pub returns : goal.returns
returns c =
    let bs = c.args.image.now in
    let h = c.in_ok-header.header in
    let cut = rw c.in_ok-bytes.ensures.ok_part at c.split_first_chunk.ensures.cases in
    let is = good_header bs c.in_ok-bytes.bytes.now c.header.result cut.0 c.header.ensures h c.in_ok-header.ensures.ok_part in
    let n = count_is bs h is.1 in
    let same : eqb (length bs) (64 + 8 * pair_at bs 4) ≡ true = eq-eqb _ _ (omega (arith, n, cut.2)) in
    record { refusal = sym (good_refusal bs (omega (arith, cut.2)) is.0 ∙ ap (λ b. unless b BadLength 0) same); value = (is.1, omega (arith, cut.2)) }
