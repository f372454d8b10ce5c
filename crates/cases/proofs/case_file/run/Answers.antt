use Rattle.std.proofs.Common.{◌+◌, length, take, ap, sym, subst, ◌∙◌, arith}
use Rattle.std.proofs.lemmas.Iterator.Splits.{YieldsList-from_lines}
use Rattle.std.proofs.lemmas.List.{length_push, take_all}
use Rattle.std.proofs.lemmas.List.Sums.{sum_by_more}
use Rattle.std.specs.List.{sum_by}
use Rattle.std.specs.Str.Lines.{lines}
use Rattle.counted.specs.Counted.{Counted}
use Rattle.cases.specs.Counts.{case_count}
use Rattle.cases.proofs.Numbered.{numbered_turn, numbered_end}
use Rattle.cases.proofs.case_file.run.Goals as goal

pub loop-index-preserved : goal.loop-index-preserved
loop-index-preserved c =
    let all = lines c.args.text.now in
    let l = c.loop-index in
    let n = length l.yielded in
    let index = c.in-Some.index in
    let line = c.in-Some.line in
    let t = numbered_turn (YieldsList-from_lines c.args.text.now cc) (cc) l.yielded _ l.yielded_by _ _ index line c.in-Some.is c.next.ensures.steps in
    let e = ap (λ k. sum_by case_count (take k all)) (length_push l.yielded (index, line)) ∙ sum_by_more case_count all n line.now t.0 ∙ ap (λ v. sum_by case_count (take n all) + case_count v) (sym t.1) in
    subst (λ v. Counted v c.run_line.new.report) (sym e) (c.in_ok-run_line.ensures (sum_by case_count (take n all)) l.invariant)

pub returns : goal.returns
returns c =
    let all = lines c.args.text.now in
    let l = c.loop-index in
    let t = numbered_end (YieldsList-from_lines c.args.text.now cc) (cc) l.yielded _ l.yielded_by _ _ c.in-None.is c.next.ensures.steps in
    subst (λ v. Counted (sum_by case_count v) l.report) (take_all (length l.yielded) all (omega (arith, t))) l.invariant
