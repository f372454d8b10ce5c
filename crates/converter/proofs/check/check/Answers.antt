use Rattle.std.proofs.Common.{◌<◌, length, ap, ◌∙◌, rules}
use Rattle.std.proofs.lemmas.List.{get_or_default}
use Rattle.instructions.specs.declared.Instruction.TheVariants.{Again}
use Rattle.program.proofs.Around.{around_none}
use Rattle.brackets.specs.Labelled.{unmarked}
use Rattle.labels.specs.Kinds.{secrecy}
use Rattle.labels.specs.Sets.{sets, secret_tables}
use Rattle.labels.proofs.Passing.{around_more, few_more}
use Rattle.conversion.specs.Refusing.{hidden_by, first_wrong}
use Rattle.converter.proofs.Within.{within}
use Rattle.converter.proofs.Passing.{wrong_pass}
use Rattle.converter.proofs.check.check.Goals as goal

pub wrong-requires : goal.wrong-requires
wrong-requires c =
    let s = c.args.source.now in
    let p = c.loop-place.place in
    let lt : p < length s.code.now = search rules in
    within s.code.now p _ s.passable lt

pub pass-requires : goal.pass-requires
pass-requires c =
    let s = c.args.source.now in
    let l = c.loop-place in
    let lt : l.place < length s.code.now = search rules in
    few_more secrecy s.code.now l.place l.masks.openings _ lt (get_or_default s.code.now l.place _ Again lt) _ l.invariant.1 s.passable.few

pub loop-place-init : goal.loop-place-init
loop-place-init c =
    let s = c.args.source.now in
    let e = c.new-masks.ensures in (
      ap (λ ks. first_wrong (secret_tables s.tables.now) (hidden_by c.args.hides) (sets s.plan.now) ks 0 s.code.now) e,
      ap unmarked e ∙ around_none s.code.now,
    )

pub loop-place-preserved : goal.loop-place-preserved
loop-place-preserved c =
    let s = c.args.source.now in
    let l = c.loop-place in
    let ks = l.masks.openings in
    let lt : l.place < length s.code.now = search rules in
    let x = get_or_default s.code.now l.place _ Again lt in (
      wrong_pass (secret_tables s.tables.now) (hidden_by c.args.hides) (sets s.plan.now) s.code.now ks _ l.place _ _ _ lt x c.masked.ensures c.in_default.ensures c.pass.ensures l.invariant.0,
      ap unmarked c.pass.ensures ∙ around_more secrecy s.code.now l.place ks _ lt x _ l.invariant.1,
    )
