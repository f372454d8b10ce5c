use Rattle.std.proofs.Common.{◌≡◌, [], ◌++◌, length, drop}
use Rattle.program.specs.Openings.{around}
use Rattle.brackets.specs.Labelled.{unmarked}
use Rattle.labels.specs.Sets.{sets}
use Rattle.groups.specs.Groups.{lengths}
use Rattle.converter.specs.Parts.{part_lengths}
use Rattle.converter.proofs.parts.part_lengths.Given as goal

abbrev pub invariant-loop-place : goal.invariant-loop-place
invariant-loop-place l =
    (l.parts.items ++ part_lengths (lengths l.source.tables.now) (sets l.source.plan.now) l.masks.openings l.place (drop l.place l.source.code.now)
    ≡ part_lengths (lengths l.source.tables.now) (sets l.source.plan.now) [] 0 l.source.code.now)
    × (unmarked l.masks.openings ≡ around l.source.code.now l.place)
    × (length l.parts.items ≡ l.place)
