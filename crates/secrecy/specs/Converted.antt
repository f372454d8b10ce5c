-- What a labelled source becomes carries its labels.
use Rattle.std.specs.Prelude.{ℕ, Bool, true, cond, nat_lt}
use Rattle.program.specs.Blocks.{Block, done, fin}
use Rattle.conversion.specs.Trees.{FitBlock, converted}
use Rattle.conversion.specs.Labelling.{Labelled}
use Rattle.secrecy.specs.Carried.{Carried}

-- those of A, and all registers past 15: masks, the first bad place and what is used within a group
abbrev pub wide : (ℕ → Bool) → ℕ → Bool
wide A r = cond (nat_lt r 16) (A r) true

-- from the labels that arrive at the first place to those that arrive at the end
abbrev pub ConvertedCarries : Type 0
ConvertedCarries =
    (secret hidden : ℕ → Bool) (S : ℕ → ℕ → Bool) (long : ℕ → ℕ) (used : ℕ) (b : Block Bool) → FitBlock 16 used b
    → Labelled secret hidden S 0 b 0 → Carried secret hidden (wide (S 0)) (converted long 0 b 0 done) (wide (S (fin b 0)))
