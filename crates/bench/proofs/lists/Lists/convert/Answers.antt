use Rattle.std.proofs.Common.{length, vec_items, sym, ap, ◌∙◌}
use Rattle.bench.proofs.Longest.{result_fits}
use Rattle.bench.proofs.lists.Lists.convert.Goals as goal

pub returns-in-Err-clause-refusal : goal.returns-in-Err-clause-refusal
returns-in-Err-clause-refusal c =
    let h = c.in-Err.ensures.answer in
    sym h.refusal ∙ result_fits c.args.source.now c.args.hides _ (ap (λ l. length (vec_items l)) c.replace-list.ensures.value ∙ c.requires)
