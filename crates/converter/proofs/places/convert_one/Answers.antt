use Rattle.std.proofs.Common.{◌++◌, sym, ap, ◌∙◌}
use Rattle.labels.specs.Sets.{sets}
use Rattle.groups.specs.Groups.{lengths}
use Rattle.conversion.specs.Conversion.{becomes}
use Rattle.converter.proofs.places.convert_one.Goals as goal

pub returns-in-Else : goal.returns-in-Else
returns-in-Else c =
    let a = c.args in
    c.else_place.ensures (lengths a.source.now.tables.now) (sets a.source.now.plan.now a.place) a.place ∙ ap (λ i. a.out.now ++ becomes (lengths a.source.now.tables.now) (sets a.source.now.plan.now a.place) a.masks.now.openings a.place i) (sym c.in-Else.is)

pub returns-in-End : goal.returns-in-End
returns-in-End c =
    let a = c.args in
    c.end_place.ensures (lengths a.source.now.tables.now) (sets a.source.now.plan.now a.place) a.place ∙ ap (λ i. a.out.now ++ becomes (lengths a.source.now.tables.now) (sets a.source.now.plan.now a.place) a.masks.now.openings a.place i) (sym c.in-End.is)
