-- The most steps and the most marks, as text.
use Rattle.std.specs.Prelude.{ℕ, List, ◌++◌, codes, decimal}

-- the marks on a flat memory, on a banked one, and on a flat one with a full scan
abbrev pub bounds_text : ℕ → ℕ → ℕ → ℕ → List ℕ
bounds_text steps flat banked scanned =
    codes "most steps: " ++ (decimal steps ++ (codes "\nmost marks: " ++ (decimal flat ++ (codes " on flat, " ++ (decimal banked ++ (codes " on banked, " ++ (decimal scanned ++ codes " with a full scan")))))))
