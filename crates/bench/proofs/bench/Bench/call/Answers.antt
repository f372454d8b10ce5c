use Rattle.std.proofs.Common.{◌≡◌, ◌≤◌, min, ◌++◌, length, take, drop, sym, ap, ◌∙◌, arith}
use Rattle.std.proofs.lemmas.List.{length-take-le}
use Rattle.calls.specs.declared.Call.TheVariants.{Go}
use Rattle.calls.specs.Calls.{visited}
use Rattle.bench.specs.Views.{view}
use Rattle.bench.specs.Calling.{within}
use Rattle.bench.proofs.Fronts.{front_written}
use Rattle.bench.proofs.bench.Bench.call.Goals as goal

pub returns-in_ok-go-in-Go-clause-visits : goal.returns-in_ok-go-in-Go-clause-visits
returns-in_ok-go-in-Go-clause-visits g c =
    let vs = c.args.visits.now in
    let m = c.min-most.result in
    let b = view g.M.Memory.model c.args.self.now in
    let most : m ≡ min c.in-Go.room (length vs) = c.min-most.ensures in
    let few : m ≤ length vs = omega arith in
    let cut = length-take-le m vs few in
    let made : Go (length (take m vs)) ≡ within (length vs) c.args.call.now = ap Go (cut ∙ most) ∙ ap (within (length vs)) (sym c.in-Go.is) in
    front_written _ vs c.go.new.visits m few (omega (arith, c.go.auto.visits, cut))
    (c.go.ensures.visits ∙ ap (λ k. visited k b ++ drop (length (visited k b)) (take m vs)) made)
