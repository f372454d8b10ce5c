-- Images at the edges of what is read.
use Rattle.std.specs.Prelude.{◌≡◌, ℕ, List, [], ◌∷◌, ◌++◌, replicate, Some, None}
use Rattle.instructions.specs.declared.Instruction.TheVariants.{Repeat, Again}
use Rattle.program.specs.declared.refusal.Reason.TheVariants.{BadHeader, BadField}
use Rattle.program.specs.Refusals.{refusal}
use Rattle.image.specs.Images.{code_bytes, read_refusal}

-- the header of a source that has no table, and says that it has so many instructions, up to 255
abbrev pub saying : ℕ → List ℕ
saying count = 1 ∷ 0 ∷ 0 ∷ 0 ∷ count ∷ replicate 59 0

-- no instructions are read; 201 are too many, whatever follows; a repeat goes round at least once and at most 1,024
-- times
pub record SmallImages : Type 0 where
  pub empty : (room : ℕ) → read_refusal (saying 0) room ≡ None
  pub too_long : (body : List ℕ) (room : ℕ) → read_refusal (saying 201 ++ body) room ≡ Some (refusal BadHeader 0)
  pub most_rounds : (room : ℕ) → read_refusal (saying 2 ++ code_bytes (Repeat 1 1025 ∷ Again ∷ [])) room ≡ Some (refusal BadField 0)
  pub no_round : (room : ℕ) → read_refusal (saying 2 ++ code_bytes (Repeat 1 0 ∷ Again ∷ [])) room ≡ Some (refusal BadField 0)
