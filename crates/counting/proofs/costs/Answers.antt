use Rattle.std.proofs.Common.{map, length, ap, ◌∙◌, rules}
use Rattle.counting.specs.Counting.{costs}
use Rattle.counting.proofs.Mapped.{mapped}
use Rattle.counting.proofs.costs.Goals as goal

pub returns-clause-each : goal.returns-clause-each
returns-clause-each g c =
    let f = costs (g.M.Memory.model c.args.memory.now).rules.cost in
    mapped _ f _ (λ x y q k. search rules) _ _ 8 (ap (λ h. length h.tables) c.header.ensures ∙ c.args.program.now.eight) c.map.ensures.items
    ∙ ap (λ h. map f h.tables) c.header.ensures
