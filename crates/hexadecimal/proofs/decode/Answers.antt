use Rattle.std.proofs.Common.{get_or, Some, vec_items, length, sym, refl, ap, ◌∙◌, ◌/◌, ◌<◌, arith, rules, below_more}
use Rattle.hexadecimal.proofs.Pairs.{spelled, not_spelled}
use Rattle.hexadecimal.proofs.decode.Goals as goal

pub returns-in_err-ok_or : goal.returns-in_err-ok_or
returns-in_err-ok_or c =
    let in_range : c.loop-high.high-index < length c.args.text.now / 2 = omega (arith, c.loop-high-test.true, c.as_chunks.ensures.front_len) in
    let none = not_spelled c.args.text.now c.as_chunks.result.0.now c.as_chunks.ensures.front c.loop-high.high-index in_range (sym c.byte.ensures ∙ c.in_err-ok_or.ensures.ok_part) in
    search (rules, none)

pub loop-high-preserved : goal.loop-high-preserved
loop-high-preserved c =
    let put = c.in_ok-push.ensures.by_index in
    let now = vec_items c.push.new.self in
    let here = ap (λ n. get_or now n 0) (sym c.loop-high.invariant.0) ∙ put.1 0 refl in (
      omega (arith, c.in_ok-push.ensures.len),
      below_more _ _ (λ k lt. c.loop-high.invariant.1 k lt ∙ ap (λ b. Some b) (sym (put.0 k 0 (omega arith)))) (sym c.byte.ensures ∙ c.in_ok-ok_or.ensures.ok_part ∙ ap (λ b. Some b) (sym here)),
    )

pub returns : goal.returns
returns c =
    let half = c.loop-high.invariant.0 in
    let all = c.loop-high.invariant.1 in
    spelled c.args.text.now c.as_chunks.result.0.now c.as_chunks.ensures.front c.loop-high.bytes.items (omega arith) (omega arith) (λ k lt. all k (omega arith))
