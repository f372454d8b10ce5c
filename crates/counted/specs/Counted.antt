-- What a report says of cases that were counted.
use Rattle.std.specs.Prelude.{◌≡◌, ℕ, ◌+◌, ◌-◌, ◌^◌, min, length, vec_items}
use Rattle.tally.specs.declared.report.Report.{Report}

-- of n cases: each agrees or differs, and there is a note on each of the first three that differ
pub record Counted (n : ℕ) (r : Report) : Type 0 where
  pub agreeing : ℕ
  pub differing : ℕ
  pub both : agreeing + differing ≡ n
  pub agree : r.tally.agree ≡ min agreeing (2 ^ 64 - 1)
  pub all : r.tally.all ≡ min n (2 ^ 64 - 1)
  pub notes : length (vec_items r.notes) ≡ min differing 3
