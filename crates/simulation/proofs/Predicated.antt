-- A machine on source blocks that has masks and marks bad indices, as converted code does, but
-- needs no registers 25 to 28: between it and the source stand masks only, between it and the
-- converted code the groups only.
use Rattle.std.proofs.Common.{◌≡◌, ℕ, zero, suc, ◌+◌, ◌<◌, min, Bool, true, false, eqb, ltb, bit_and, bit_xor, List}
use Rattle.instructions.specs.declared.Op.{Op}
use Rattle.instructions.specs.declared.Op.TheVariants.{Set, Pick, Load, Store}
use Rattle.program.specs.declared.header.Table.{Table}
use Rattle.program.specs.Headers.{first_cell}
use Rattle.program.specs.Blocks.{Block, done, one, if_then, if_else, loop, fin}
use Rattle.machine.specs.Words.{bit, value_of}
use Rattle.machine.specs.Machine.{if_not0, length_of}
use Rattle.simulation.proofs.Straight.{Words, put, put_cell}

-- the mask at s secret ifs around
abbrev pub mask : ℕ → Words → ℕ
mask zero z = 1
mask (suc n) z = z.registers (16 + n)

-- equal but for registers 25 and up
pub record Near (x y : Words) : Type 0 where
  pub registers : (r : ℕ) → r < 25 → x.registers r ≡ y.registers r
  pub cells : x.cells ≡ y.cells

-- a secret if by register a, with s secret ifs around it, opens its mask
abbrev pub opened : ℕ → ℕ → Words → Words
opened zero a z = put (16 + 0) (bit (eqb (bit (eqb (z.registers a) 0)) 0)) z
opened (suc n) a z = put (16 + suc n) (bit_and (bit (eqb (bit (eqb (z.registers a) 0)) 0)) (z.registers (16 + n))) z

-- and its else turns that mask over
abbrev pub inverted : ℕ → Words → Words
inverted zero z = put (16 + 0) (bit_xor (z.registers (16 + 0)) 1) z
inverted (suc n) z = put (16 + suc n) (bit_xor (z.registers (16 + suc n)) (z.registers (16 + n))) z

-- m times f
abbrev pub times : ℕ → (Words → Words) → Words → Words
times zero f z = z
times (suc m) f z = times m f (f z)

module _ (tables : List Table) where
  -- 1 where the index in register a is in range
  abbrev pub within : Words → ℕ → ℕ → ℕ
  within z a t = bit (ltb (z.registers a) (length_of tables t))

  -- the index, or 0
  abbrev pub index : Words → ℕ → ℕ → ℕ
  index z a t = if_not0 (within z a t) (z.registers a) 0

  -- 1 where it is out of range, no bad one came before, and the mask at s secret ifs around is 1
  abbrev pub first_bad : ℕ → Words → ℕ → ℕ → ℕ
  first_bad zero z a t = bit_and (bit (eqb (within z a t) 0)) (bit (eqb (z.registers 24) 0))
  first_bad (suc n) z a t = bit_and (bit_and (bit (eqb (within z a t) 0)) (bit (eqb (z.registers 24) 0))) (z.registers (16 + n))

  -- and then 24 marks place p
  abbrev pub marked : ℕ → ℕ → ℕ → ℕ → Words → Words
  marked s p a t z = put 24 (if_not0 (first_bad s z a t) (p + 1) (z.registers 24)) z

  abbrev pub predicated_op : ℕ → ℕ → Op → Words → Words
  predicated_op zero p (Set d v) z = put d (value_of v z.registers) z
  predicated_op zero p (Pick d a b) z = put d (if_not0 (z.registers a) (z.registers b) (z.registers d)) z
  predicated_op zero p (Load d a t) z = put d (z.cells (first_cell tables t + index z a t)) (marked zero p a t z)
  predicated_op zero p (Store d a t) z =
      let c = first_cell tables t + index z a t in
      put_cell c (if_not0 (within z a t) (z.registers d) (z.cells c)) (marked zero p a t z)
  predicated_op (suc n) p (Set d v) z = put d (if_not0 (z.registers (16 + n)) (value_of v z.registers) (z.registers d)) z
  predicated_op (suc n) p (Pick d a b) z =
      put d (if_not0 (z.registers (16 + n)) (if_not0 (z.registers a) (z.registers b) (z.registers d)) (z.registers d)) z
  predicated_op (suc n) p (Load d a t) z =
      put d (if_not0 (z.registers (16 + n)) (z.cells (first_cell tables t + index z a t)) (z.registers d)) (marked (suc n) p a t z)
  predicated_op (suc n) p (Store d a t) z =
      let c = first_cell tables t + index z a t in
      put_cell c (if_not0 (bit_and (within z a t) (z.registers (16 + n))) (z.registers d) (z.cells c)) (marked (suc n) p a t z)

  -- the block at source place p, with s secret ifs around it
  abbrev pub predicated : ℕ → Block Bool → ℕ → Words → Words
  predicated s done p z = z
  predicated s (one o b) p z = predicated s b (suc p) (predicated_op s p o z)
  predicated s (if_then true a t b) p z = predicated s b (suc (fin t (suc p))) (predicated (suc s) t (suc p) (opened s a z))
  predicated s (if_then false a t b) p z = predicated s b (suc (fin t (suc p))) (if_not0 (z.registers a) (predicated s t (suc p) z) z)
  predicated s (if_else true a t e b) p z =
      let q = fin t (suc p) in
      predicated s b (suc (fin e (suc q))) (predicated (suc s) e (suc q) (inverted s (predicated (suc s) t (suc p) (opened s a z))))
  predicated s (if_else false a t e b) p z =
      let q = fin t (suc p) in
      predicated s b (suc (fin e (suc q))) (if_not0 (z.registers a) (predicated s t (suc p) z) (predicated s e (suc q) z))
  predicated s (loop a k t b) p z = predicated s b (suc (fin t (suc p))) (times (min (z.registers a) k) (predicated s t (suc p)) z)
