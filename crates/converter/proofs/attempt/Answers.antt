-- Each goal has a context of its own, so each names its lemmas again.
use Rattle.std.proofs.Common.{◌≡◌, ◌+◌, ◌≤◌, [], length, sym, ap, ◌∙◌, subst, arith}
use Rattle.labels.specs.Sets.{sets}
use Rattle.plan.specs.Planned.{Passable}
use Rattle.program.specs.Programs.{code_of}
use Rattle.machine.proofs.Programs.{code_long}
use Rattle.counting.specs.Counting.{Countable}
use Rattle.groups.specs.Groups.{lengths}
use Rattle.conversion.specs.Conversion.{convert}
use Rattle.converter.proofs.Results.{source_there, source_short, source_passable, plan_long, plan_there, result_countable}
use Rattle.converter.proofs.attempt.Goals as goal

pub invariant_of-labelled : goal.invariant_of-labelled
invariant_of-labelled c =
    let m = c.args.source.now in
    let kind = source_there m.header.kind _ c.in_ok-plan.ensures.answer in
    let n : c.from.result + 1 ≡ length (code_of c.args.source.now) + 1 = omega (arith, code_long m, c.from.ensures, ap (λ h. h.count) c.header-header.ensures) in
    let el = plan_there m kind _ _ c.plan.new.list n c.in_ok-plan.ensures.list.0 in
    let ec = c.code.ensures in
    record {
      passable = subst Passable (sym ec) (source_passable m kind);
      short = subst (λ l. length l ≤ 200) (sym ec) (source_short m kind);
      long = ap length el ∙ plan_long m kind ∙ ap (λ l. length l + 1) (sym ec);
    }

pub size_fits-requires : goal.size_fits-requires
size_fits-requires c =
    let m = c.args.source.now in
    let kind = source_there m.header.kind _ c.in_ok-plan.ensures.answer in
    let n : c.from.result + 1 ≡ length (code_of c.args.source.now) + 1 = omega (arith, code_long m, c.from.ensures, ap (λ h. h.count) c.header-header.ensures) in
    let el = plan_there m kind _ _ c.plan.new.list n c.in_ok-plan.ensures.list.0 in
    let eh = c.header-header.ensures in
    let ec = c.code.ensures in
    let w = c.as_slice.ensures.value ∙ c.convert_all.ensures ∙ (λ t. convert (lengths (eh t).tables) (sets (el t)) [] 0 (ec t)) in
    subst Countable (sym w) (result_countable m kind)
