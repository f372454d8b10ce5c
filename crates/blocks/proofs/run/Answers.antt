use Rattle.std.proofs.Common.{◌≡◌, ◌+◌, false, cond, length, drop, is_some, subst, arith}
use Rattle.std.proofs.lemmas.Iterator.Splits.{YieldsList-from_lines}
use Rattle.std.proofs.lemmas.List.{at_drop_all, length_push}
use Rattle.std.specs.Str.Lines.{lines}
use Rattle.counted.specs.Counted.{Counted}
use Rattle.cases.proofs.Numbered.{numbered_turn, numbered_end}
use Rattle.blocks.specs.Counts.{closed_at, blocks_among}
use Rattle.blocks.proofs.Steps.{blocks_more}
use Rattle.blocks.proofs.run.Goals as goal

pub loop-index-preserved : goal.loop-index-preserved
loop-index-preserved g c =
    let all = lines c.args.text.now in
    let l = c.loop-index in
    let n = l.invariant.0 in
    let index = c.in-Some.index in
    let line = c.in-Some.line in
    let t = numbered_turn (YieldsList-from_lines c.args.text.now cc) (cc) l.yielded _ l.yielded_by _ _ index line c.in-Some.is c.next.ensures.steps in
    let taken = c.in_ok-block.ensures n l.invariant.1 in (
      n + closed_at g.H.Held.head (is_some l.block) line.now,
      taken.0,
      blocks_more g.H.Held.head (is_some l.block) (is_some c.in_ok-block.block) all (length l.yielded) _ line.now n _ t.0 t.1 taken.1 (length_push l.yielded (index, line)) l.invariant.2,
    )

pub returns : goal.returns
returns g c =
    let all = lines c.args.text.now in
    let l = c.loop-index in
    let n = l.invariant.0 in
    let t = numbered_end (YieldsList-from_lines c.args.text.now cc) (cc) l.yielded _ l.yielded_by _ _ c.in-None.is c.next.ensures.steps in
    let last : blocks_among g.H.Held.head (is_some l.block) (drop (length l.yielded) all) ≡ cond (is_some l.block) 1 0 = at_drop_all (blocks_among g.H.Held.head (is_some l.block)) all (length l.yielded) (omega (arith, t)) in
    let total : n + cond (is_some l.block) 1 0 ≡ blocks_among g.H.Held.head false all = omega (arith, last, l.invariant.2) in
    subst (λ v. Counted v c.close_endless.new.report) total (c.in_ok-close_endless.ensures n l.invariant.1)
