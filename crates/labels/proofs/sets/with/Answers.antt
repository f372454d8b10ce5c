use Rattle.std.proofs.Common.{sym, ap, ◌∙◌}
use Rattle.std.proofs.lemmas.Nat.{one_shl}
use Rattle.labels.specs.Kinds.{secrecy}
use Rattle.labels.specs.Rules.{put}
use Rattle.labels.specs.Sets.{bits}
use Rattle.labels.proofs.Bits.{bits_in, bits_out}
use Rattle.labels.proofs.sets.with.Goals as goal

pub returns-then-secret : goal.returns-then-secret
returns-then-secret c =
    bits_in c.args.set c.args.register _ (one_shl c.args.register 16 c.requires)
    ∙ ap (put secrecy (bits c.args.set) c.args.register) (sym c.if-secret.true)

pub returns-else-secret : goal.returns-else-secret
returns-else-secret c =
    bits_out c.args.set c.args.register _ (one_shl c.args.register 16 c.requires)
    ∙ ap (put secrecy (bits c.args.set) c.args.register) (sym c.if-secret.false)
