use Rattle.std.proofs.Common.{◌≡◌, [], drop}
use Rattle.program.specs.Openings.{around}
use Rattle.brackets.specs.Labelled.{unmarked}
use Rattle.labels.specs.Sets.{sets, secret_tables}
use Rattle.conversion.specs.Refusing.{hidden_by, first_wrong}
use Rattle.converter.proofs.check.check.Given as goal

abbrev pub invariant-loop-place : goal.invariant-loop-place
invariant-loop-place l =
    (first_wrong (secret_tables l.source.tables.now) (hidden_by l.hides) (sets l.source.plan.now) l.masks.openings l.place (drop l.place l.source.code.now)
    ≡ first_wrong (secret_tables l.source.tables.now) (hidden_by l.hides) (sets l.source.plan.now) [] 0 l.source.code.now)
    × (unmarked l.masks.openings ≡ around l.source.code.now l.place)
