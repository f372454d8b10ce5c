use Rattle.std.proofs.Common.{ap}
use Rattle.bench.specs.Seats.{seated, program_seated}
use Rattle.bench.proofs.Going.{go_after}
use Rattle.bench.proofs.bench.Bench.go.Goals as goal

pub returns-clause-after : goal.returns-clause-after
returns-clause-after g c =
    let ran = c.in_ok-outcome.ensures.ran in
    let is = ap seated c.in-Some.is in
    go_after (program_seated c.in-Some.program) _ _ _ _ _ _ _ c.in_ok-outcome.outcome _ is c.args.self.now.short c.args.self.now.fits ran.0 ran.1 c.ending.ensures
