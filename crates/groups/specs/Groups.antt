-- What each op becomes, and what a secret if and its else become. `mask` is the register that masks
-- the place, where there is one. Registers 25 to 28 are for use within a group only.
use Rattle.std.specs.Prelude.{ℕ, zero, suc, ◌+◌, List, [], ◌∷◌, ◌++◌, Some, None, Option, slice_index_or}
use Rattle.instructions.specs.declared.BinaryOp.TheVariants.{And, Xor, Below, Same}
use Rattle.instructions.specs.declared.Value.{Value}
use Rattle.instructions.specs.declared.Value.TheVariants.{Const, Move, Binary}
use Rattle.instructions.specs.declared.Op.{Op}
use Rattle.instructions.specs.declared.Op.TheVariants.{Set, Pick, Load, Store}
use Rattle.instructions.specs.declared.Instruction.{Instruction}
use Rattle.instructions.specs.declared.Instruction.TheVariants.{Do}
use Rattle.program.specs.declared.header.Table.{Table}
use Rattle.program.specs.Headers.{no_table}

-- ops as instructions
abbrev pub straight : List Op → List Instruction
straight [] = []
straight (o ∷ os) = Do o ∷ straight os

-- with s secret ifs around: register 15 + s, where s is at least 1
abbrev pub mask_at : ℕ → Option ℕ
mask_at zero = None
mask_at (suc n) = Some (16 + n)

-- and x,x with the mask, where there is one
abbrev pub and_mask : Option ℕ → ℕ → List Op
and_mask None x = []
and_mask (Some m) x = Set x (Binary And x m) ∷ []

-- an op into register d: behind a mask it goes into 25, and from there where the mask is not 0
abbrev pub masked : Option ℕ → (ℕ → Op) → ℕ → List Op
masked None op d = op d ∷ []
masked (Some m) op d = op 25 ∷ Pick d m 25 ∷ []

-- a value into register d
abbrev pub set_group : Option ℕ → ℕ → Value → List Op
set_group mask d v = masked mask (λ r. Set r v) d

-- behind a mask 25 gets what register d has
abbrev pub kept : Option ℕ → ℕ → List Op
kept None d = []
kept (Some m) d = Set 25 (Move d) ∷ []

-- a pick behind a mask is tried in 25, on what its target has
abbrev pub pick_group : Option ℕ → ℕ → ℕ → ℕ → List Op
pick_group mask d a b = kept mask d ++ masked mask (λ r. Pick r a b) d

-- a load or store by index register a in a table of t cells begins so: 25 tells whether the index
-- is good, and 26 is the index or 0
abbrev pub in_range : ℕ → ℕ → List Op
in_range t a = Set 25 (Const t) ∷ Set 25 (Binary Below a 25) ∷ Set 26 (Const 0) ∷ Pick 26 25 a ∷ []

-- 27 tells that the index is bad and no bad one came before
abbrev pub first_bad : List Op
first_bad = Set 27 (Const 0) ∷ Set 28 (Binary Same 24 27) ∷ Set 27 (Binary Same 25 27) ∷ Set 27 (Binary And 27 28) ∷ []

abbrev pub guard_start : ℕ → ℕ → List Op
guard_start t a = in_range t a ++ first_bad

-- 24 keeps the first bad place, and one added
abbrev pub guard_mark : ℕ → List Op
guard_mark p = Set 28 (Const (p + 1)) ∷ Pick 24 27 28 ∷ []

-- at source place p; behind a mask an index that is not used is not a bad one
abbrev pub guard : Option ℕ → ℕ → ℕ → ℕ → List Op
guard mask t p a = guard_start t a ++ (and_mask mask 27 ++ guard_mark p)

abbrev pub load_end : Option ℕ → ℕ → ℕ → List Op
load_end mask d b = masked mask (λ r. Load r 26 b) d

-- table b at index 26 gets d where 25 is not 0, and otherwise what it had
abbrev pub exchange : ℕ → ℕ → List Op
exchange d b = Load 27 26 b ∷ Pick 27 25 d ∷ Store 27 26 b ∷ []

abbrev pub store_end : Option ℕ → ℕ → ℕ → List Op
store_end mask d b = and_mask mask 25 ++ exchange d b

-- the length of each table
abbrev pub lengths : List Table → ℕ → ℕ
lengths tables b = (slice_index_or tables b no_table).length

-- what an op at source place p becomes, where the tables have these lengths
abbrev pub op_group : (ℕ → ℕ) → Option ℕ → ℕ → Op → List Op
op_group long mask p (Set d v) = set_group mask d v
op_group long mask p (Pick d a b) = pick_group mask d a b
op_group long mask p (Load d a b) = guard mask (long b) p a ++ load_end mask d b
op_group long mask p (Store d a b) = guard mask (long b) p a ++ store_end mask d b

-- n is 1 where a is not 0, and 0 where it is
abbrev pub is_set : ℕ → ℕ → List Op
is_set n a = Set 25 (Const 0) ∷ Set 26 (Binary Same a 25) ∷ Set n (Binary Same 26 25) ∷ []

-- a secret if by register a, where `mask` masks the if itself and n is the mask that it opens
abbrev pub if_group : Option ℕ → ℕ → ℕ → List Op
if_group mask n a = is_set n a ++ and_mask mask n

-- its else
abbrev pub else_group : Option ℕ → ℕ → List Op
else_group None n = Set 25 (Const 1) ∷ Set n (Binary Xor n 25) ∷ []
else_group (Some m) n = Set n (Binary Xor n m) ∷ []
