use Rattle.std.proofs.Common.{◌≡◌, ◌<◌, ◌≤◌, true, false, length, Some, sym, ap, ◌∙◌, arith, rules, length-set, below_more}
use Rattle.std.proofs.lemmas.Bool.{cond-false, cond-true}
use Rattle.std.proofs.lemmas.List.FromFn.{fill_by_all}
use Rattle.program.specs.Headers.{no_table}
use Rattle.program.specs.Firsts.{all_below}
use Rattle.program.proofs.Firsts.{all_false, all_true}
use Rattle.header.specs.Layout.{entry_good, table_at, tables_at}
use Rattle.header.proofs.Choosing.{cond_none, cond_some, written_more}
use Rattle.header.proofs.Chunks.{table_read, entry_read}
use Rattle.header.proofs.decode.tables.Goals as goal

pub returns-in_err-tables : goal.returns-in_err-tables
returns-in_err-tables c =
    let bs = c.args.bytes.now in
    let i = c.loop-i.i in
    let good = entry_good bs c.args.used in
    let long : length bs ≡ 64 = search rules in
    let lt : i < 8 = omega (arith, c.as_chunks.ensures.front_len) in
    let read = entry_read bs c.as_chunks.result.0.now long c.as_chunks.ensures.front i c.from.result c.args.used lt c.from.ensures in
    let bad : good i ≡ false = sym read ∙ cond_none _ _ c.in_err-tables.ensures in
    c.from_residual.ensures ∙ sym (cond-false (all_below good 8) _ _ (all_false good 8 i lt bad))

pub loop-i-preserved : goal.loop-i-preserved
loop-i-preserved c =
    let bs = c.args.bytes.now in
    let i = c.loop-i.i in
    let long : length bs ≡ 64 = search rules in
    let lt : i < 8 = omega (arith, c.as_chunks.ensures.front_len) in
    let read = entry_read bs c.as_chunks.result.0.now long c.as_chunks.ensures.front i c.from.result c.args.used lt c.from.ensures in
    let both = cond_some _ _ _ c.in_ok-tables.ensures in
    let good : entry_good bs c.args.used i ≡ true = sym read ∙ both.0 in
    let table : c.in_ok-tables.field-0 ≡ table_at bs i = both.1 ∙ table_read bs c.as_chunks.result.0.now long c.as_chunks.ensures.front i lt in (
      simp length-set c.loop-i.invariant.0,
      below_more _ _ c.loop-i.invariant.1 good,
      written_more (table_at bs) c.loop-i.tables i c.in_ok-tables.field-0 (omega (arith, c.loop-i.invariant.0)) table c.loop-i.invariant.2,
    )

pub returns : goal.returns
unfolding tables_at
returns c =
    let good = entry_good c.args.bytes.now c.args.used in
    let all : 8 ≤ c.loop-i.i = omega (arith, c.as_chunks.ensures.front_len) in
    ap (λ ts. Some ts) (fill_by_all (table_at c.args.bytes.now) c.loop-i.tables 8 no_table c.loop-i.invariant.0 (λ k h. c.loop-i.invariant.2 k no_table (omega arith)))
    ∙ sym (cond-true (all_below good 8) _ _ (all_true good 8 (λ k h. c.loop-i.invariant.1 k (omega arith))))
