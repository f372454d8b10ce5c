use Rattle.std.proofs.Common.{rules, ◌≡◌, ◌∙◌, ap, [], ◌∷◌}
use Rattle.labels.specs.Kinds.{secrecy}
use Rattle.labels.specs.Rules.{way, ways}
use Rattle.labels.specs.Passes.{along}
use Rattle.labels.specs.Sets.{sets}
use Rattle.plan.proofs.ways.along_ways.Goals as goal

pub returns-in-Again-Loop : goal.returns-in-Again-Loop
returns-in-Again-Loop c =
    let e : (c.way-in-Again-Loop.result ∷ c.way-onward.result ∷ c.way-in-Again-Loop-2.result ∷ []) ≡ ways secrecy c.args.masks.now.openings c.args.place c.args.instruction = search rules in
    record {
      sets = c.along-in-Again-Loop.ensures.sets ∙ ap (λ ws. along secrecy ws (sets c.args.list.now)) e;
      grew = c.along-in-Again-Loop.ensures.grew;
    }
