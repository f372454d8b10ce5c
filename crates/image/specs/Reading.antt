-- What reading answers.
use Rattle.std.specs.Prelude.{◌≡◌, ℕ, ◌⊎◌, List, ◌++◌, length, drop, Some, None, Ok, Err, vec_items, Result}
use Rattle.instructions.specs.declared.Instruction.{Instruction}
use Rattle.program.specs.declared.program.Program.{Program}
use Rattle.program.specs.Programs.{code_of}
use Rattle.program.specs.declared.refusal.Reason.TheVariants.{BadBracket, TooDeep}
use Rattle.program.specs.Blocks.{Nested}
use Rattle.header.specs.Layout.{header_at}
use Rattle.program.specs.declared.handed_back.HandedBack.{HandedBack}
use Rattle.image.specs.Images.{code_at, read_refusal, image_of}

-- an image that is not refused fills the list from entry 0, and later entries stay
pub record Accepted (bs : List ℕ) (before : List Instruction) (p : Program) : Type 0 where
  pub refusal : read_refusal bs (length before) ≡ None
  pub header : p.header ≡ header_at bs
  pub list : vec_items p.list ≡ code_at bs ++ drop (header_at bs).count before

-- a refusal hands the list back as it was
pub record Refused (bs : List ℕ) (before : List Instruction) (back : HandedBack) : Type 0 where
  pub refusal : read_refusal bs (length before) ≡ Some back.refusal
  pub list : vec_items back.list ≡ before

abbrev pub Reads : List ℕ → List Instruction → Result Program HandedBack → Type 0
Reads bs before (Ok p) = Accepted bs before p
Reads bs before (Err back) = Refused bs before back

-- what was read is written as the same bytes
abbrev pub Rewrites : List ℕ → Result Program HandedBack → Type 0
Rewrites bs (Ok p) = image_of p.header (code_of p) ≡ bs
Rewrites bs (Err back) = Unit {0}

-- a program that was read is the writing-out of nested blocks, at most eight deep; instructions
-- whose brackets are refused are not
abbrev pub Nests : List ℕ → Result Program HandedBack → Type 0
Nests bs (Ok p) = Nested (code_of p)
Nests bs (Err back) = ((back.refusal.reason ≡ BadBracket) ⊎ (back.refusal.reason ≡ TooDeep)) → Nested (code_at bs) → ⊥
