-- How many secret ifs there are among openings.
use Rattle.std.specs.Prelude.{ℕ, suc, Bool, true, false, List, [], ◌∷◌}
use Rattle.program.specs.declared.opening.Marked.{Marked}

-- one more where it is secret
abbrev pub more : Bool → ℕ → ℕ
more true n = suc n
more false n = n

-- the number of secret ifs
abbrev pub secrets_of : List (Marked Bool) → ℕ
secrets_of [] = 0
secrets_of (k ∷ ks) = more k.label (secrets_of ks)
