use Rattle.std.proofs.Common.{◌+◌, ◌<◌, ◌≤◌, length, drop, sym, ap, ◌∙◌, arith, rules}
use Rattle.std.proofs.lemmas.List.{get_or_default}
use Rattle.instructions.specs.declared.Instruction.TheVariants.{Again}
use Rattle.program.specs.Bounds.{bound}
use Rattle.program.proofs.Around.{around_none}
use Rattle.brackets.specs.Labelled.{unmarked}
use Rattle.labels.specs.Kinds.{secrecy}
use Rattle.labels.specs.Passes.{sweep}
use Rattle.labels.specs.Sets.{sets, secret_tables}
use Rattle.labels.proofs.Rows.{grew_none, grew_both}
use Rattle.labels.proofs.Passing.{ahead, around_more, few_more, sweep_more, sweep_end}
use Rattle.plan.proofs.plan.pass_over.Goals as goal

pub flow-changed-requires : goal.flow-changed-requires
flow-changed-requires c =
    let code = c.args.code.now in
    let l = c.loop-place in
    let lt : l.place < length c.args.code.now = search rules in
    let long : l.place + 1 < length l.list = omega (arith, l.auto.list, c.requires.long) in
    let b = ap (bound 16 8) (get_or_default code l.place _ Again lt) ∙ c.requires.code.bounds l.place lt in
    (b, (ahead code l.place l.masks.openings l.invariant.1, long))

pub pass-requires : goal.pass-requires
pass-requires c =
    let code = c.args.code.now in
    let l = c.loop-place in
    let lt : l.place < length c.args.code.now = search rules in
    few_more secrecy code l.place l.masks.openings _ lt (get_or_default code l.place _ Again lt) _ l.invariant.1 c.requires.code.few

pub loop-place-init : goal.loop-place-init
loop-place-init c =
    let e = c.new-masks.ensures in (
      ap (λ ks. sweep secrecy (secret_tables c.args.tables.now) ks 0 c.args.code.now (sets c.args.list.now)) e,
      ap unmarked e ∙ around_none c.args.code.now,
      grew_none c.args.list.now,
    )

pub loop-place-preserved : goal.loop-place-preserved
loop-place-preserved c =
    let code = c.args.code.now in
    let tables = secret_tables c.args.tables.now in
    let l = c.loop-place in
    let ks = l.masks.openings in
    let lt : l.place < length c.args.code.now = search rules in
    let x = get_or_default code l.place _ Again lt in
    let f = c.pass.ensures in
    let g = c.flow-changed.ensures.sets in (
      (λ t. sweep secrecy tables (f t) (l.place + 1) (drop (l.place + 1) code) (g t)) ∙ sym (sweep_more secrecy code l.place ks _ lt x tables (sets l.list)) ∙ l.invariant.0,
      ap unmarked f ∙ around_more secrecy code l.place ks _ lt x _ l.invariant.1,
      grew_both l.changed c.flow-changed.result _ _ _ l.invariant.2 c.flow-changed.ensures.grew,
    )

pub returns : goal.returns
returns c =
    let l = c.loop-place in
    let le : length c.args.code.now ≤ l.place = search rules in
    record {
      sets = sym (sweep_end secrecy (secret_tables c.args.tables.now) c.args.code.now l.masks.openings l.place (sets l.list) le) ∙ l.invariant.0;
      grew = l.invariant.2;
    }
