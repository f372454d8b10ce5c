-- Counts and costs are held at the number above 1,000,000.
use Rattle.std.specs.Prelude.{ℕ, min}

-- 1,000,001 when larger
abbrev pub hold : ℕ → ℕ
hold n = min n 1000001
