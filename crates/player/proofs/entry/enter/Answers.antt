use Rattle.std.proofs.Common.{vec_items, length, take, drop, ap, ◌∙◌}
use Rattle.std.proofs.lemmas.List.{take_at}
use Rattle.memory.specs.Description.{Description}
use Rattle.bench.specs.Views.{view}
use Rattle.player.proofs.Entering.{entered}
use Rattle.player.proofs.entry.enter.Goals as goal

pub returns-clause-entry : goal.returns-clause-entry
returns-clause-entry g c =
    let b = view g.M.Memory.model c.args.bench.now in
    let after = c.call-answer.new.visits in
    let whole = take_at after (drop (length after) (vec_items c.in_ok-visits.visits)) _ (c.call-answer.auto.visits ∙ c.deref_mut.ensures.len) in
    entered c.args.call.now b (view g.M.Memory.model c.call-answer.new.self) c.deref_mut.result.now after _ _ c.made_by.result c.marks.result
    c.args.bench.now.short (c.deref_mut.ensures.len ∙ c.in_ok-visits.ensures.len ∙ c.room_of.ensures) c.call-answer.ensures.answer c.call-answer.ensures.after c.call-answer.ensures.visits c.made_by.ensures
    (c.truncate.ensures.items ∙ ap (take c.made_by.result) whole) (c.marks.ensures ∙ ap (λ (d : Description). length d.seen) c.memory.ensures)
