use Rattle.std.proofs.Common.{◌≡◌, ◌≢◌, length, get_or, replicate, ap, ◌∙◌, arith, get_or-set_other, get_or-set_same}
use Rattle.labels.proofs.Reckoning.{zeros}
use Rattle.plan.proofs.plan.clear.Goals as goal

pub returns : goal.returns
returns c =
    let l = c.fill.new.self in
    let e : c.fill.new.self ≡ replicate (length c.args.list.now) 0 = c.fill.ensures.after (λ y h. h) in
    record {
      first = get_or-set_same l 0 c.args.start 0 (omega (arith, c.fill.ensures.len));
      others = λ k h. let ne : k ≢ 0 = omega arith in get_or-set_other l 0 k c.args.start 0 ne ∙ ap (λ xs. get_or xs k 0) e ∙ zeros (length c.args.list.now) k;
    }
