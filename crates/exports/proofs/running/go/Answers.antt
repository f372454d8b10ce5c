use Rattle.std.proofs.Common.{length, refl, ap, ◌∙◌}
use Rattle.std.proofs.lemmas.Result.{err_from_is_err_and}
use Rattle.layered.specs.Leaves.{leaf_model}
use Rattle.layered.specs.Piles.{pile_model}
use Rattle.exports.specs.Shapes.{over}
use Rattle.exports.proofs.Piled.{pile_cells, unrun_is, run_is}
use Rattle.exports.proofs.running.go.Goals as goal

pub returns-in_err-outcome : goal.returns-in_err-outcome
returns-in_err-outcome c =
    let many = ap length c.deref_mut.ensures.value ∙ c.in_ok-visits.ensures in
    let why = unrun_is c.args.image.now c.args.words.now c.args.shape c.args.room c.args.cells.now c.in_ok-program.program c.in_ok-program.ensures (pile_model c.in_ok-pile.pile) c.in_ok-pile.ensures c.deref_mut.result.now many in
    let p = err_from_is_err_and c.from_residual-in_err-outcome.result c.from_residual-in_err-outcome.ensures.1 in
    rw (p.1, p.2) (why ∙ c.in_err-outcome.ensures.ran.0, refl)

pub returns : goal.returns
returns c =
    let many = ap length c.deref_mut.ensures.value ∙ c.in_ok-visits.ensures in
    let cells = c.deref.ensures.value ∙ c.in_ok-left.ensures ∙ ap (λ l. (leaf_model l).cells) c.into_leaf.ensures ∙ pile_cells c.run.new.memory in
    run_is c.args.image.now c.args.words.now c.args.shape c.args.room c.args.cells.now c.in_ok-program.program c.in_ok-program.ensures (pile_model c.in_ok-pile.pile) c.in_ok-pile.ensures c.deref_mut.result.now many c.entry-entry.result c.entry-entry.ensures (pile_model c.run.new.memory) c.run.new.visits c.in_ok-outcome.outcome c.lay_over.new.out c.in_ok-outcome.ensures.ran (c.lay_over.ensures ∙ ap (λ w. over w c.args.cells.now) cells)
