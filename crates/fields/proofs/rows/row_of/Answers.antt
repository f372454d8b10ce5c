-- What stands at an op's place in the list of rows, if anything does, is the row of that op.
use Rattle.std.proofs.Common.{◌≡◌, ℕ, ◌<◌, ◌≤◌, Bor, Some, None, Option, MatchOption, subst, arith}
use Rattle.std.specs.Option.{option_copied}
use Rattle.std.specs.Slice.{IsItemAt}
use Rattle.fields.specs.declared.rows.Row.{Row}
use Rattle.fields.specs.declared.rows.Bound.TheVariants.{Unused}
use Rattle.fields.specs.Rows.{rows, row_of, uses}
use Rattle.fields.proofs.rows.row_of.Goals as goal

row_is : (o : Option (Bor Row)) (op : ℕ) → IsItemAt rows op o → MatchOption (option_copied o) (21 ≤ op) (λ row. (op < 21) × (row ≡ row_of op))
row_is None op h = h.3
row_is (Some r) op h = (h.3.0, h.4 (omega arith) (uses Unused Unused Unused Unused))

pub returns : goal.returns
returns c =
    let there = subst (λ i. IsItemAt rows i c.get.result) c.from.ensures c.get.ensures.lookup in
    let row = row_is c.get.result c.args.op there in
    rw c.copied.ensures row
