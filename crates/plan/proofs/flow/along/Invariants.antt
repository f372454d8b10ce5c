use Rattle.std.proofs.Common.{◌≡◌, drop}
use Rattle.labels.specs.Kinds.{secrecy}
use Rattle.labels.specs.Passes.{along}
use Rattle.labels.specs.Sets.{sets, Grew}
use Rattle.plan.proofs.flow.along.Given as goal

abbrev pub invariant-loop-way : goal.invariant-loop-way
invariant-loop-way l = (along secrecy (drop l.way-index l.ways) (sets l.list) ≡ along secrecy l.ways (sets l.initial.list)) × Grew l.changed l.initial.list l.list
