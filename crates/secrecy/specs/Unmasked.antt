-- Sources with no secret if.
use Rattle.std.specs.Prelude.{◌≡◌, ℕ, Bool, false}
use Rattle.program.specs.Blocks.{Block, done, one, if_then, if_else, loop, fin}
use Rattle.conversion.specs.Labelling.{Labelled}
use Rattle.secrecy.specs.Carried.{Carried}

-- every if is noted as public
abbrev pub Unmasked : Block Bool → Type 0
Unmasked done = Unit {0}
Unmasked (one op b) = Unmasked b
Unmasked (if_then n a t b) = (n ≡ false) × Unmasked t × Unmasked b
Unmasked (if_else n a t e b) = (n ≡ false) × Unmasked t × Unmasked e × Unmasked b
Unmasked (loop a k t b) = Unmasked t × Unmasked b

-- where none is secret, a labelled source itself carries its labels
abbrev pub UnmaskedCarries : Type 0
UnmaskedCarries =
    (secret hidden : ℕ → Bool) (S : ℕ → ℕ → Bool) (b : Block Bool) (p : ℕ) → Unmasked b
    → Labelled secret hidden S 0 b p → Carried secret hidden (S p) b (S (fin b p))
