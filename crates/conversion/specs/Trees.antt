-- A source as nested blocks, each if noted as secret or public; and what the blocks become.
use Rattle.std.specs.Prelude.{◌≡◌, Bool, true, false, List, [], ◌∷◌, ℕ, suc, ◌+◌, ◌<◌, ◌≤◌}
use Rattle.instructions.specs.declared.Op.{Op}
use Rattle.instructions.specs.declared.Instruction.{Instruction}
use Rattle.program.specs.declared.header.Header.{Header}
use Rattle.program.specs.Blocks.{Block, done, one, if_then, if_else, loop, flat, depth, fin}
use Rattle.machine.specs.Fits.{FitOp}
use Rattle.groups.specs.Groups.{lengths, mask_at, op_group, if_group, else_group}
use Rattle.conversion.specs.Sources.{IsSource, result_by}

-- each if of a block that begins at p is noted as secret exactly where S has its register
abbrev pub Noted : (ℕ → ℕ → Bool) → Block Bool → ℕ → Type 0
Noted S done p = Unit {0}
Noted S (one op b) p = Noted S b (suc p)
Noted S (if_then secret a t b) p = (S p a ≡ secret) × Noted S t (suc p) × Noted S b (suc (fin t (suc p)))
Noted S (if_else secret a t e b) p =
    (S p a ≡ secret) × Noted S t (suc p) × Noted S e (suc (fin t (suc p))) × Noted S b (suc (fin e (suc (fin t (suc p)))))
Noted S (loop a k t b) p = Noted S t (suc p) × Noted S b (suc (fin t (suc p)))

-- registers below r, tables below u, and no repeat goes round more than 1,024 times
module _ (r u : ℕ) where
  abbrev pub FitBlock : Block Bool → Type 0
  FitBlock done = Unit {0}
  FitBlock (one op b) = FitOp r u op × FitBlock b
  FitBlock (if_then secret a t b) = (a < r) × FitBlock t × FitBlock b
  FitBlock (if_else secret a t e b) = (a < r) × FitBlock t × FitBlock e × FitBlock b
  FitBlock (loop a k t b) = (a < r) × FitBlock t × FitBlock b × (k ≤ 1024)

-- ops in front of a block
abbrev pub ops : List Op → Block Bool → Block Bool
ops [] k = k
ops (o ∷ os) k = one o (ops os k)

-- what a block at source place p becomes, with s secret ifs around it, and then k; the tables have
-- these lengths
module _ (long : ℕ → ℕ) where
  abbrev pub converted : ℕ → Block Bool → ℕ → Block Bool → Block Bool
  converted s done p k = k
  converted s (one op b) p k = ops (op_group long (mask_at s) p op) (converted s b (suc p) k)
  converted s (if_then true a t b) p k =
      ops (if_group (mask_at s) (16 + s) a) (converted (suc s) t (suc p) (converted s b (suc (fin t (suc p))) k))
  converted s (if_then false a t b) p k =
      if_then false a (converted s t (suc p) done) (converted s b (suc (fin t (suc p))) k)
  converted s (if_else true a t e b) p k =
      let q = fin t (suc p) in
      ops (if_group (mask_at s) (16 + s) a)
      (converted (suc s) t (suc p) (ops (else_group (mask_at s) (16 + s)) (converted (suc s) e (suc q) (converted s b (suc (fin e (suc q))) k))))
  converted s (if_else false a t e b) p k =
      let q = fin t (suc p) in
      if_else false a (converted s t (suc p) done) (converted s e (suc q) done) (converted s b (suc (fin e (suc q))) k)
  converted s (loop a n t b) p k = loop a n (converted s t (suc p) done) (converted s b (suc (fin t (suc p))) k)

-- a source as nested blocks, noted by S; what they become is what its instructions become
pub record Tree (S : ℕ → ℕ → Bool) (h : Header) (code : List Instruction) : Type 0 where
  pub block : Block Bool
  pub row : flat block [] ≡ code
  pub notes : Noted S block 0
  pub deep : depth block ≤ 8
  pub fits : FitBlock 16 h.used block
  pub result : flat (converted (lengths h.tables) 0 block 0 done) [] ≡ result_by S h code
  pub shallow : depth (converted (lengths h.tables) 0 block 0 done) ≤ 8

-- every source is such a tree, by any labels
abbrev pub Trees : Type 0
Trees = (S : ℕ → ℕ → Bool) (h : Header) (code : List Instruction) → IsSource h code → Tree S h code
