use Rattle.std.proofs.Common.{◌++◌, ◌<◌, length, ap, ◌∙◌, arith, rules}
use Rattle.std.proofs.lemmas.List.{get_or_default}
use Rattle.instructions.specs.declared.Instruction.TheVariants.{Again}
use Rattle.program.proofs.Around.{around_none}
use Rattle.brackets.specs.Labelled.{unmarked}
use Rattle.labels.specs.Kinds.{secrecy}
use Rattle.labels.specs.Sets.{sets}
use Rattle.labels.proofs.Passing.{around_more, few_more}
use Rattle.groups.specs.Groups.{lengths}
use Rattle.conversion.specs.Conversion.{convert}
use Rattle.converter.proofs.Within.{within}
use Rattle.converter.proofs.Passing.{convert_more}
use Rattle.converter.proofs.Short.{longer}
use Rattle.converter.proofs.places.convert_all.Goals as goal

pub convert_one-requires-clause-bound : goal.convert_one-requires-clause-bound
convert_one-requires-clause-bound c =
    let s = c.args.source.now in
    let p = c.loop-place.place in
    let lt : p < length s.code.now = search rules in
    within s.code.now p _ s.passable lt

pub pass-requires : goal.pass-requires
pass-requires c =
    let s = c.args.source.now in
    let l = c.loop-place in
    let lt : l.place < length s.code.now = search rules in
    few_more secrecy s.code.now l.place l.masks.openings _ lt (get_or_default s.code.now l.place _ Again lt) _ l.invariant.1 s.passable.few

pub loop-place-init : goal.loop-place-init
loop-place-init c =
    let s = c.args.source.now in
    let e = c.new-masks.ensures in
    let f = c.requires in (
      (λ t. f t ++ convert (lengths s.tables.now) (sets s.plan.now) (e t) 0 s.code.now),
      ap unmarked e ∙ around_none s.code.now,
      omega (arith, ap length f),
    )

pub loop-place-preserved : goal.loop-place-preserved
loop-place-preserved c =
    let s = c.args.source.now in
    let l = c.loop-place in
    let ks = l.masks.openings in
    let lt : l.place < length s.code.now = search rules in
    let x = get_or_default s.code.now l.place _ Again lt in (
      convert_more (lengths s.tables.now) (sets s.plan.now) s.code.now ks _ l.place _ _ _ _ lt x c.convert_one.ensures c.pass.ensures l.invariant.0,
      ap unmarked c.pass.ensures ∙ around_more secrecy s.code.now l.place ks _ lt x _ l.invariant.1,
      omega (arith, l.invariant.2, longer (lengths s.tables.now) l.place (sets s.plan.now l.place) ks s.code.now _ l.out _ x c.convert_one.ensures),
    )
