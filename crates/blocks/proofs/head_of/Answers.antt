use Rattle.std.proofs.Common.{eqb, ap, ◌∙◌}
use Rattle.std.specs.List.{starts_with}
use Rattle.blocks.proofs.Steps.{stripped}
use Rattle.blocks.proofs.head_of.Goals as goal

pub returns : goal.returns
returns g c =
    stripped c.strip_prefix.result c.args.text.now c.head.result.now c.strip_prefix.ensures.cases
    ∙ ap (starts_with eqb c.args.text.now) c.head.ensures
