use Rattle.std.proofs.Common.{length, vec_items, sym, ap, ◌∙◌, arith}
use Rattle.header.proofs.Rewritten.{Bytes}
use Rattle.bench.proofs.Longest.{image_fits, read_seated, read_long}
use Rattle.bench.proofs.lists.Lists.read.Goals as goal

pub returns-in-Ok-clause-program : goal.returns-in-Ok-clause-program
returns-in-Ok-clause-program c =
    let h = c.in-Ok.ensures.answer in
    let long = ap (λ l. length (vec_items l)) c.replace-list.ensures.value ∙ c.requires in
    (read_seated _ c.in-Ok.program _ h.header h.list, read_long _ c.in-Ok.program _ h.header h.list long)

pub returns-in-Err-clause-refusal : goal.returns-in-Err-clause-refusal
returns-in-Err-clause-refusal c =
    let h = c.in-Err.ensures.answer in
    let bytes : Bytes c.args.image.now = λ k. let fits = c.type_inv.image k in omega arith in
    sym h.refusal ∙ image_fits _ bytes _ (ap (λ l. length (vec_items l)) c.replace-list.ensures.value ∙ c.requires)
