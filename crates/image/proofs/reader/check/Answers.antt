-- Each goal has a context of its own, so each names its lemmas again.
use Rattle.std.proofs.Common.{[], ap, ◌∙◌}
use Rattle.std.proofs.lemmas.Result.{err_from_is_err_and}
use Rattle.program.specs.Pairing.{pairing}
use Rattle.image.proofs.Answering.{bad_field, after_fields}
use Rattle.image.proofs.Chunked.{code_read, fields_read}
use Rattle.image.proofs.reader.check.Goals as goal

pub returns-in_err-check_fields : goal.returns-in_err-check_fields
returns-in_err-check_fields c =
    let bs = c.args.image.now in
    let h = c.in_ok-header.header in
    let code = c.code_in-code.ensures in
    let p = err_from_is_err_and c.from_residual-in_err-check_fields.result c.from_residual-in_err-check_fields.ensures.1 in
    let fields = fields_read bs h c.code_in-code.result.now c.in_ok-header.ensures.value.1 code.chunks code.count _ (λ t. record { registers = c.registers.ensures t; tables = h.used }) in
    rw (p.1, p.2) (record { refusal = bad_field bs h c.in_ok-header.ensures.refusal c.in_ok-header.ensures.value.0 _ (c.in_err-check_fields.ensures ∙ fields); value = tt })

pub returns-in_err-check_brackets : goal.returns-in_err-check_brackets
returns-in_err-check_brackets c =
    let bs = c.args.image.now in
    let h = c.in_ok-header.header in
    let code = c.code_in-code.ensures in
    let p = err_from_is_err_and c.from_residual-in_err-check_brackets.result c.from_residual-in_err-check_brackets.ensures.1 in
    let fields = fields_read bs h c.code_in-code.result.now c.in_ok-header.ensures.value.1 code.chunks code.count _ (λ t. record { registers = c.registers.ensures t; tables = h.used }) in
    let brackets = ap (pairing [] 0) (code_read bs h c.code_in-code.result.now c.in_ok-header.ensures.value.1 code.chunks code.count) in
    rw (p.1, p.2) (record { refusal = after_fields bs h c.in_ok-header.ensures.refusal c.in_ok-header.ensures.value.0 _ (c.in_ok-check_fields.ensures ∙ fields) (c.in_err-check_brackets.ensures ∙ brackets); value = tt })

pub returns : goal.returns
returns c =
    let bs = c.args.image.now in
    let h = c.in_ok-header.header in
    let code = c.code_in-code.ensures in
    let fields = fields_read bs h c.code_in-code.result.now c.in_ok-header.ensures.value.1 code.chunks code.count _ (λ t. record { registers = c.registers.ensures t; tables = h.used }) in
    let brackets = ap (pairing [] 0) (code_read bs h c.code_in-code.result.now c.in_ok-header.ensures.value.1 code.chunks code.count) in
    record { refusal = after_fields bs h c.in_ok-header.ensures.refusal c.in_ok-header.ensures.value.0 _ (c.in_ok-check_fields.ensures ∙ fields) (c.in_ok-check_brackets.ensures ∙ brackets); value = c.in_ok-header.ensures.value }
