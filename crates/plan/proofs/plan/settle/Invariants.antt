use Rattle.labels.specs.Kinds.{secrecy}
use Rattle.labels.specs.Passes.{Rising}
use Rattle.labels.specs.Sets.{bits, sets, secret_tables, room}
use Rattle.plan.proofs.plan.settle.Given as goal

abbrev pub invariant-loop : goal.invariant-loop
invariant-loop l = Rising secrecy (secret_tables l.header.tables) (bits l.header.secret_entry) l.code (sets l.list)

abbrev pub decreases-loop : goal.decreases-loop
decreases-loop l = room l.list
