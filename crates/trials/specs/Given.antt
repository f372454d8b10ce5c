-- How a case gives an image.
use Rattle.std.specs.Prelude.{◌≡◌, ℕ, List, [], codes, MatchBool}
use Rattle.std.specs.Str.{bytes_eq}
use Rattle.hexadecimal.specs.Spelling.{Spells}

-- a dash for no bytes, or else two digits for each byte
abbrev pub Gives : List ℕ → List ℕ → Type 0
Gives text bytes = MatchBool (bytes_eq text (codes "-")) (bytes ≡ []) (Spells text bytes)
