use Rattle.std.proofs.Common.{◌≡◌, ◌+◌, min, ap, ◌∙◌, arith}
use Rattle.memory.specs.declared.Access.TheVariants.{Read, Write}
use Rattle.full_scan.specs.Scan.{turn_cost}
use Rattle.full_scan.specs.Costs.{stopped}
use Rattle.full_scan.proofs.FullScanLayer.cost.Goals as goal
use Rattle.full_scan.proofs.FullScanLayer.cost.Goals.{in-Read, in-Write}

pub returns : goal.returns
returns g c =
    let len = c.args.len in
    let cost = (g.M.Memory.model c.args.below.now).rules.cost in
    let turn : c.match-access.turn ≡ min (turn_cost cost c.args.access len) 18446744073709551615 =
    elim c.match-access.branch [
      | in-Read w ↦ (let t : turn_cost cost c.args.access len ≡ cost Read len = ap (λ k. turn_cost cost k len) w.in-Read.is in omega arith)
      | in-Write w ↦ (let t : turn_cost cost c.args.access len ≡ cost Read len + cost Write len = ap (λ k. turn_cost cost k len) w.in-Write.is in omega arith)
    ] in
    c.min.ensures ∙ ap (λ n. min n 1000001) c.saturating_mul.ensures ∙ stopped len (turn_cost cost c.args.access len) c.match-access.turn turn
