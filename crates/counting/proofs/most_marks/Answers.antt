use Rattle.std.proofs.Common.{◌≡◌, [], sym, ap, ◌∙◌, subst}
use Rattle.program.specs.Programs.{code_of}
use Rattle.machine.proofs.Programs.{code_pairs}
use Rattle.counting.specs.Counting.{Sum, sums, priced, mark_price, most_marks}
use Rattle.counting.proofs.Sums.{summed, not_held}
use Rattle.counting.proofs.Adding.{marks_alone}
use Rattle.counting.proofs.most_marks.Goals as goal

pub returns : goal.returns
returns g c =
    let s = c.args.program.now in
    let cost = (g.M.Memory.model c.args.memory.now).rules.cost in
    let w = mark_price cost s.header.tables in
    let e : c.most.result ≡ most_marks cost s.header.tables (code_of s) =
    c.most.ensures
    ∙ ap (sums (priced 0 c.costs.result) [] 0) c.code.ensures
    ∙ ap (λ l. sums (priced 0 l) [] 0 (code_of s)) c.costs.ensures.each
    ∙ ap (λ w. sums w [] 0 (code_of s)) (marks_alone cost s.header.tables) in
    record {
      value = e;
      sum = subst (Sum w (code_of s)) (sym e) (summed w (code_of s) (code_pairs s));
      within = not_held w (code_of s) (code_pairs s) e;
    }
