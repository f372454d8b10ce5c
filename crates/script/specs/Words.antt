-- Words of a text, with one space between.
use Rattle.std.specs.Prelude.{ℕ, Bool, List, ◌==◌}
use Rattle.std.specs.List.{before_first, after_first}

abbrev pub is_space : ℕ → Bool
is_space c = c == 32

-- the first word: all, where there is no space
abbrev pub first : List ℕ → List ℕ
first text = before_first is_space text

-- what stands behind the first space
abbrev pub rest : List ℕ → List ℕ
rest text = after_first is_space text
