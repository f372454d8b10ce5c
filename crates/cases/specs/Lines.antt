-- A case as a line.
use Rattle.std.specs.Prelude.{ℕ, List, ◌∷◌, ◌++◌, codes}
use Rattle.cases.specs.declared.case.Case.{Case}

-- the kind, the id and what is given, with a space between, and behind an arrow what is expected
abbrev pub line_of : Case → List ℕ
line_of c = (c.kind.now ++ (32 ∷ (c.id.now ++ (32 ∷ c.given.now)))) ++ (codes " -> " ++ c.expected.now)
