-- A converted program is straight: public ifs and repeats of its source are all that is left of brackets.
use Rattle.std.specs.Prelude.{◌≡◌, ℕ, suc, ◌≤◌, Bool, cond, List, [], ◌∷◌, ◌++◌, length, Ok, Err, Result}
use Rattle.instructions.specs.declared.Instruction.{Instruction}
use Rattle.instructions.specs.declared.Instruction.TheVariants.{Do, If, Else, End, Repeat, Again}
use Rattle.program.specs.declared.header.Kind.TheVariants.{Converted}
use Rattle.program.specs.declared.handed_back.HandedBack.{HandedBack}
use Rattle.program.specs.declared.opening.Marked.{Marked}
use Rattle.program.specs.declared.program.Program.{Program}
use Rattle.program.specs.Blocks.{Nested}
use Rattle.program.specs.Programs.{code_of}
use Rattle.labels.specs.Kinds.{secrecy}
use Rattle.labels.specs.Passes.{opens}
use Rattle.converter.specs.Converting.{smallest_labels}

-- the brackets among instructions
abbrev pub brackets : List Instruction → List Instruction
brackets [] = []
brackets (Do op ∷ is) = brackets is
brackets (If a ∷ is) = If a ∷ brackets is
brackets (Else ∷ is) = Else ∷ brackets is
brackets (End ∷ is) = End ∷ brackets is
brackets (Repeat a k ∷ is) = Repeat a k ∷ brackets is
brackets (Again ∷ is) = Again ∷ brackets is

-- a bracket that is not of a secret if, where the registers of A arrive and ks is open around it
abbrev pub public_one : (ℕ → Bool) → List (Marked Bool) → Instruction → List Instruction
public_one A ks (Do op) = []
public_one A ks (If a) = cond (A a) [] (If a ∷ [])
public_one A [] Else = Else ∷ []
public_one A (k ∷ ks) Else = cond k.label [] (Else ∷ [])
public_one A [] End = End ∷ []
public_one A (k ∷ ks) End = cond k.label [] (End ∷ [])
public_one A ks (Repeat a k) = Repeat a k ∷ []
public_one A ks Again = Again ∷ []

-- the brackets of public ifs and of repeats among instructions from place p on
abbrev pub public_brackets : (ℕ → ℕ → Bool) → List (Marked Bool) → ℕ → List Instruction → List Instruction
public_brackets S ks p [] = []
public_brackets S ks p (i ∷ is) = public_one (S p) ks i ++ public_brackets S (opens secrecy (S p) ks p i) (suc p) is

-- a converted program is one of its kind, nested blocks written out; public ifs and repeats of its
-- source are all that is left of brackets
pub record Straight (source p : Program) : Type 0 where
  pub kind : p.header.kind ≡ Converted
  pub short : length (code_of p) ≤ 3000
  pub nested : Nested (code_of p)
  pub left : brackets (code_of p) ≡ public_brackets (smallest_labels source.header (code_of source)) [] 0 (code_of source)

abbrev pub Straightens : Program → Result Program HandedBack → Type 0
Straightens source (Ok p) = Straight source p
Straightens source (Err back) = Unit {0}
