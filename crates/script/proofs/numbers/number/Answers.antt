use Rattle.std.proofs.Common.{ap, ◌∙◌}
use Rattle.std.specs.Str.Parse.{without_leading_plus}
use Rattle.script.proofs.Digits.{read_digits}
use Rattle.script.specs.Numbers.{base_of, value_of}
use Rattle.script.proofs.numbers.number.Goals as goal

pub returns : goal.returns
returns c =
    c.ok.ensures.value ∙ read_digits 64 c.digits-base.result.0 c.digits-base.result.1.now c.from_str_radix.result c.from_str_radix.ensures.value
    ∙ ap (λ base. value_of 64 base (without_leading_plus c.digits-base.result.1.now)) c.digits-base.ensures.base
    ∙ ap (λ ds. value_of 64 (base_of c.args.text.now) (without_leading_plus ds)) c.digits-base.ensures.digits
