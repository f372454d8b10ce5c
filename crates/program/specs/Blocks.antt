-- Nested blocks, and their writing-out as a row of instructions.
use Rattle.std.specs.Prelude.{◌≡◌, ℕ, suc, ◌≤◌, max, List, [], ◌∷◌}
use Rattle.instructions.specs.declared.Op.{Op}
use Rattle.instructions.specs.declared.Instruction.{Instruction}
use Rattle.instructions.specs.declared.Instruction.TheVariants.{Do, If, Else, End, Repeat, Again}

-- an op, an if or a repeat in front of the rest of its block; each if carries a note
pub data Block (Note : Type 0) : Type 0 where
  done : Block Note
  one : Op → Block Note → Block Note
  if_then : Note → ℕ → Block Note → Block Note → Block Note
  if_else : Note → ℕ → Block Note → Block Note → Block Note → Block Note
  loop : ℕ → ℕ → Block Note → Block Note → Block Note

module _ {Note : Type 0} where
  -- the instructions of a block, and then others
  abbrev pub flat : Block Note → List Instruction → List Instruction
  flat done rest = rest
  flat (one op b) rest = Do op ∷ flat b rest
  flat (if_then n a t b) rest = If a ∷ flat t (End ∷ flat b rest)
  flat (if_else n a t e b) rest = If a ∷ flat t (Else ∷ flat e (End ∷ flat b rest))
  flat (loop a k t b) rest = Repeat a k ∷ flat t (Again ∷ flat b rest)

  -- how many brackets are open together at the most
  abbrev pub depth : Block Note → ℕ
  depth done = 0
  depth (one op b) = depth b
  depth (if_then n a t b) = max (suc (depth t)) (depth b)
  depth (if_else n a t e b) = max (suc (max (depth t) (depth e))) (depth b)
  depth (loop a k t b) = max (suc (depth t)) (depth b)

  -- the place after a block that begins at p
  abbrev pub fin : Block Note → ℕ → ℕ
  fin done p = p
  fin (one op b) p = fin b (suc p)
  fin (if_then n a t b) p = fin b (suc (fin t (suc p)))
  fin (if_else n a t e b) p = fin b (suc (fin e (suc (fin t (suc p)))))
  fin (loop a k t b) p = fin b (suc (fin t (suc p)))

-- the row is the writing-out of nested blocks, at most eight deep
abbrev pub Nested : List Instruction → Type 0
Nested code = (b : Block (Unit {0})) × (flat b [] ≡ code) × (depth b ≤ 8)
