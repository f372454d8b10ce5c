use Rattle.std.proofs.Common.{◌+◌, ◌<◌, Bor, List, ℕ, length, map, Some, option_map, vec_items, sym, ap, ◌∙◌, arith}
use Rattle.std.proofs.lemmas.List.{get_or-map, map-append, length-map}
use Rattle.script.specs.Orders.{asked, asked_of}
use Rattle.script.specs.Scripts.{said, told_from}
use Rattle.script.proofs.Reading.{whole, line_skipped, line_read, line_stops}
use Rattle.script.proofs.script.Script.read.Goals.{in-Some-Ok+in_ok-push-in-Some-Ok, in-None}
use Rattle.script.proofs.script.Script.read.Goals as goal

pub returns-in-Some-Err : goal.returns-in-Some-Err
returns-in-Some-Err c =
    let items = c.deref-text-items.result.now in
    let below : c.loop-index.index < length (map (λ x. x.now) items) = omega (arith, length-map items (λ (x : Bor (List ℕ)). x.now), c.loop-index-test.true) in
    let asks = sym (ap (option_map asked_of) (c.in-Some-Err.is ∙ ap Some c.in-Some-Err.field-0-is)) ∙ c.order.ensures in
    line_stops (map (λ x. x.now) items) c.loop-index.index (map said c.loop-index.lines.items) _ below (sym (get_or-map (λ x. x.now) items c.loop-index.index _ _ c.loop-index-test.true)) c.in-Some-Err.why asks
    ∙ c.loop-index.invariant
    ∙ ap (told_from 1) (ap (map (λ x. x.now)) c.deref-text-items.ensures.value ∙ c.in_ok-all.ensures)

pub loop-index-preserved : goal.loop-index-preserved
loop-index-preserved c =
    let items = c.deref-text-items.result.now in
    let ls = map (λ x. x.now) items in
    let i = c.loop-index.index in
    let before = map said c.loop-index.lines.items in
    let below : i < length ls = omega (arith, length-map items (λ (x : Bor (List ℕ)). x.now), c.loop-index-test.true) in
    let here = sym (get_or-map (λ (x : Bor (List ℕ)). x.now) items i _ _ c.loop-index-test.true) in
    elim c.match-order.branch [
      | in-Some-Ok+in_ok-push-in-Some-Ok w ↦
          (let asks = sym (ap (option_map asked_of) (w.in-Some-Ok.is ∙ ap Some w.in-Some-Ok.field-0-is)) ∙ c.order.ensures in
          let more = ap (λ v. map said (vec_items v)) w.lines-is ∙ ap (map said) w.in_ok-push-in-Some-Ok.ensures.items ∙ map-append said c.loop-index.lines.items _ in
          ap (whole ls (i + 1)) more ∙ line_read ls i before _ below here (asked w.in-Some-Ok.order) asks ∙ c.loop-index.invariant)
      | in-None w ↦
          (let asks = sym (ap (option_map asked_of) w.in-None.is) ∙ c.order.ensures in
          ap (λ v. whole ls (i + 1) (map said (vec_items v))) w.lines-is ∙ line_skipped ls i before _ below here asks ∙ c.loop-index.invariant)
    ]
