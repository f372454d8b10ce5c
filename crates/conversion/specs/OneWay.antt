-- Sources with one way through: every if is secret, and there is no repeat.
use Rattle.std.specs.Prelude.{◌≡◌, ℕ, suc, Bool, true, List, [], ◌∷◌}
use Rattle.instructions.specs.declared.Instruction.{Instruction}
use Rattle.instructions.specs.declared.Instruction.TheVariants.{Do, If, Else, End, Repeat, Again}

-- the instructions from place p on have one way through
abbrev pub OneWay : (ℕ → ℕ → Bool) → ℕ → List Instruction → Type 0
OneWay S p [] = Unit {0}
OneWay S p (Do op ∷ is) = OneWay S (suc p) is
OneWay S p (If a ∷ is) = (S p a ≡ true) × OneWay S (suc p) is
OneWay S p (Else ∷ is) = OneWay S (suc p) is
OneWay S p (End ∷ is) = OneWay S (suc p) is
OneWay S p (Repeat a k ∷ is) = ⊥
OneWay S p (Again ∷ is) = OneWay S (suc p) is
