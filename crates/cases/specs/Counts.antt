-- How many cases a text has.
use Rattle.std.specs.Prelude.{ℕ, cond, List, length, nat_lt}
use Rattle.std.specs.List.{sum_by}
use Rattle.std.specs.Str.Lines.{lines}

-- a line is one, unless it is empty
abbrev pub case_count : List ℕ → ℕ
case_count line = cond (nat_lt 0 (length line)) 1 0

abbrev pub cases_in : List ℕ → ℕ
cases_in text = sum_by case_count (lines text)
