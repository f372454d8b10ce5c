use Rattle.std.proofs.Common.{◌≡◌, [], drop}
use Rattle.program.specs.Openings.{around}
use Rattle.brackets.specs.Labelled.{unmarked}
use Rattle.labels.specs.Kinds.{secrecy}
use Rattle.labels.specs.Passes.{sweep}
use Rattle.labels.specs.Sets.{sets, secret_tables, Grew}
use Rattle.plan.proofs.plan.pass_over.Given as goal

abbrev pub invariant-loop-place : goal.invariant-loop-place
invariant-loop-place l =
    (sweep secrecy (secret_tables l.tables) l.masks.openings l.place (drop l.place l.code) (sets l.list) ≡ sweep secrecy (secret_tables l.tables) [] 0 l.code (sets l.initial.list))
    × (unmarked l.masks.openings ≡ around l.code l.place)
    × Grew l.changed l.initial.list l.list
