-- An op that there is has its row; of another op no field is shown.
use Rattle.std.proofs.Common.{◌≡◌, ℕ, ◌<◌, ◌≤◌, None, Some, Option, MatchOption, unwrap_or, ◌∙◌, rules}
use Rattle.fields.specs.declared.rows.Row.{Row}
use Rattle.fields.specs.declared.rows.Bound.TheVariants.{Unused}
use Rattle.fields.specs.Rows.{row_of, uses}
use Rattle.listing.proofs.line.row.Goals as goal

row_is : (op : ℕ) (row : Option Row) → MatchOption row (21 ≤ op) (λ r. (op < 21) × (r ≡ row_of op)) → unwrap_or row (uses Unused Unused Unused Unused) ≡ row_of op
row_is op None h = search rules
row_is op (Some r) h = h.1

pub returns : goal.returns
returns c = c.unwrap_or.ensures ∙ row_is c.args.op c.row_of.result c.row_of.ensures
