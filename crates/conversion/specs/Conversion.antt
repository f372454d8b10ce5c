-- The conversion, place by place.
use Rattle.std.specs.Prelude.{ℕ, suc, ◌+◌, Bool, cond, List, [], ◌∷◌, ◌++◌}
use Rattle.instructions.specs.declared.Instruction.{Instruction}
use Rattle.instructions.specs.declared.Instruction.TheVariants.{Do, If, Else, End, Repeat, Again}
use Rattle.program.specs.declared.opening.Marked.{Marked}
use Rattle.labels.specs.Kinds.{secrecy}
use Rattle.labels.specs.Passes.{opens}
use Rattle.masks.specs.Counts.{secrets_of}
use Rattle.groups.specs.Groups.{straight, mask_at, op_group, if_group, else_group}

-- a secret if by register a, with s secret ifs around it
abbrev pub secret_if : ℕ → ℕ → List Instruction
secret_if s a = straight (if_group (mask_at s) (16 + s) a)

-- the else of a secret if, with s secret ifs around that if
abbrev pub secret_else : ℕ → List Instruction
secret_else s = straight (else_group (mask_at s) (16 + s))

-- what the instruction at place p becomes, where the registers of A arrive as secret ones, ks is
-- open around it, and the tables have these lengths
abbrev pub becomes : (ℕ → ℕ) → (ℕ → Bool) → List (Marked Bool) → ℕ → Instruction → List Instruction
becomes long A ks p (Do op) = straight (op_group long (mask_at (secrets_of ks)) p op)
becomes long A ks p (If a) = cond (A a) (secret_if (secrets_of ks) a) (If a ∷ [])
becomes long A [] p Else = Else ∷ []
becomes long A (k ∷ ks) p Else = cond k.label (secret_else (secrets_of ks)) (Else ∷ [])
becomes long A [] p End = End ∷ []
becomes long A (k ∷ ks) p End = cond k.label [] (End ∷ [])
becomes long A ks p (Repeat a k) = Repeat a k ∷ []
becomes long A ks p Again = Again ∷ []

-- what instructions from place p on become
abbrev pub convert : (ℕ → ℕ) → (ℕ → ℕ → Bool) → List (Marked Bool) → ℕ → List Instruction → List Instruction
convert long S ks p [] = []
convert long S ks p (i ∷ is) = becomes long (S p) ks p i ++ convert long S (opens secrecy (S p) ks p i) (suc p) is
