use Rattle.std.proofs.Common.{◌≡◌, false, ltb, sym, ◌∙◌, rules}
use Rattle.labels.proofs.Bits.{bits_above}
use Rattle.labels.proofs.sets.has.Goals as goal

pub returns-else-register-lt16 : goal.returns-else-register-lt16
returns-else-register-lt16 c =
    let no : ltb c.args.register 16 ≡ false = search rules in
    no ∙ sym (bits_above c.args.set c.args.register c.ranges.set.fits c.if-register-lt16.false)
