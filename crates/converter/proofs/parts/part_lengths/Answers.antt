use Rattle.std.proofs.Common.{[], ◌∷◌, ◌++◌, ◌<◌, length, ap, ◌∙◌, arith, rules, length-append}
use Rattle.std.proofs.lemmas.List.{get_or_default}
use Rattle.instructions.specs.declared.Instruction.TheVariants.{Again}
use Rattle.program.proofs.Around.{around_none}
use Rattle.brackets.specs.Labelled.{unmarked}
use Rattle.labels.specs.Kinds.{secrecy}
use Rattle.labels.specs.Sets.{sets}
use Rattle.labels.proofs.Passing.{around_more, few_more}
use Rattle.groups.specs.Groups.{lengths}
use Rattle.converter.specs.Parts.{part_lengths}
use Rattle.converter.proofs.Within.{within}
use Rattle.converter.proofs.Joined.{parts_more}
use Rattle.converter.proofs.parts.part_lengths.Goals as goal

pub part_length-requires-clause-bound : goal.part_length-requires-clause-bound
part_length-requires-clause-bound c =
    let s = c.args.source.now in
    let p = c.loop-place.place in
    let lt : p < length s.code.now = search rules in
    within s.code.now p _ s.passable lt

pub pass-requires : goal.pass-requires
pass-requires c =
    let s = c.args.source.now in
    let l = c.loop-place in
    let lt : l.place < length s.code.now = search rules in
    few_more secrecy s.code.now l.place l.masks.openings _ lt (get_or_default s.code.now l.place _ Again lt) _ l.invariant.1 s.passable.few

pub loop-place-init : goal.loop-place-init
loop-place-init c =
    let s = c.args.source.now in
    let e = c.new-masks.ensures in
    let f = c.new-parts.ensures in (
      (λ t. f t ++ part_lengths (lengths s.tables.now) (sets s.plan.now) (e t) 0 s.code.now),
      ap unmarked e ∙ around_none s.code.now,
      ap length f,
    )

pub loop-place-preserved : goal.loop-place-preserved
loop-place-preserved c =
    let s = c.args.source.now in
    let l = c.loop-place in
    let ks = l.masks.openings in
    let lt : l.place < length s.code.now = search rules in
    let x = get_or_default s.code.now l.place _ Again lt in
    let e = c.push.ensures.items in (
      parts_more (lengths s.tables.now) (sets s.plan.now) s.code.now ks _ l.place _ _ _ _ _ lt x c.part_length.ensures e c.pass.ensures l.invariant.0,
      ap unmarked c.pass.ensures ∙ around_more secrecy s.code.now l.place ks _ lt x _ l.invariant.1,
      omega (arith, l.invariant.2, ap length e, length-append l.parts.items (c.part_length.result ∷ [])),
    )
