use Rattle.std.proofs.Common.{ap, ◌∙◌}
use Rattle.layered.specs.Piles.{piled}
use Rattle.makes.proofs.built.build.Goals as goal

-- said step by step, so that other cells are refused at once
pub returns : goal.returns
returns c = c.build.ensures.model ∙ ap (piled c.args.make.layers) c.in_ok-leaf.ensures
