-- The bounds of a row of instructions, from tests to facts of its blocks.
use Rattle.std.proofs.Common.{◌≡◌, ℕ, suc, ◌<◌, Bool, true, ◌&&◌, ltb, leb, List, [], ◌∷◌, length, get_or, sym, subst, arith}
use Rattle.std.proofs.lemmas.Bool.{ltb-true, leb-true, and_parts}
use Rattle.instructions.specs.declared.Value.{Value}
use Rattle.instructions.specs.declared.Value.TheVariants.{Const, Move, Binary, Shift}
use Rattle.instructions.specs.declared.Op.{Op}
use Rattle.instructions.specs.declared.Op.TheVariants.{Set, Pick, Load, Store}
use Rattle.instructions.specs.declared.Instruction.{Instruction}
use Rattle.instructions.specs.declared.Instruction.TheVariants.{Do, If, Else, End, Repeat, Again}
use Rattle.program.specs.Bounds.{bound_value, bound_op, bound}
use Rattle.program.specs.Blocks.{Block, done, one, if_then, if_else, loop, flat}
use Rattle.machine.specs.Fits.{FitValue, FitOp, Fit}
use Rattle.conversion.specs.Trees.{FitBlock}

module _ (r u : ℕ) where
  two : (a b m n : ℕ) → (ltb a m && ltb b n) ≡ true → (a < m) × (b < n)
  two a b m n e = let p = and_parts (ltb a m) (ltb b n) e in (ltb-true a m p.0, ltb-true b n p.1)

  three : (d a b n : ℕ) → (ltb d r && (ltb a r && ltb b n)) ≡ true → (d < r) × (a < r) × (b < n)
  three d a b n e =
      let p = and_parts (ltb d r) (ltb a r && ltb b n) e in
      let q = two a b r n p.1 in
      (ltb-true d r p.0, q.0, q.1)

  value_fits : (v : Value) → bound_value r u v ≡ true → FitValue r v
  value_fits (Const word) e = tt
  value_fits (Move a) e = ltb-true a r e
  value_fits (Binary op a b) e = two a b r r e
  value_fits (Shift op a k) e = two a k r 32 e

  op_fits : (o : Op) → bound_op r u o ≡ true → FitOp r u o
  op_fits (Set d v) e = let p = and_parts (ltb d r) (bound_value r u v) e in (ltb-true d r p.0, value_fits v p.1)
  op_fits (Pick d a b) e = three d a b r e
  op_fits (Load d a b) e = three d a b u e
  op_fits (Store d a b) e = three d a b u e

  fits : (i : Instruction) → bound r u i ≡ true → Fit r u i
  fits (Do op) e = op_fits op e
  fits (If a) e = ltb-true a r e
  fits Else e = tt
  fits End e = tt
  fits (Repeat a k) e =
      let p = and_parts (ltb a r) (leb 1 k && leb k 1024) e in
      let q = and_parts (leb 1 k) (leb k 1024) p.1 in
      (ltb-true a r p.0, leb-true k 1024 q.1)
  fits Again e = tt

  -- every instruction is within bounds
  abbrev FitRow : List Instruction → Type 0
  FitRow [] = Unit {0}
  FitRow (i ∷ is) = Fit r u i × FitRow is

  row_fits : (is : List Instruction) → ((p : ℕ) → p < length is → bound r u (get_or is p Again) ≡ true) → FitRow is
  row_fits [] h = tt
  row_fits (i ∷ is) h = (fits i (h 0 (omega arith)), row_fits is (λ p l. h (suc p) (omega arith)))

  -- so is the block in front, and what comes after it
  front_fits : (b : Block Bool) (rest : List Instruction) → FitRow (flat b rest) → FitBlock r u b × FitRow rest
  front_fits done rest h = (tt, h)
  front_fits (one op b) rest h = let x = front_fits b rest h.1 in ((h.0, x.0), x.1)
  front_fits (if_then n a t b) rest h =
      let x = front_fits t (End ∷ flat b rest) h.1 in
      let y = front_fits b rest x.1.1 in
      ((h.0, x.0, y.0), y.1)
  front_fits (if_else n a t e b) rest h =
      let x = front_fits t (Else ∷ flat e (End ∷ flat b rest)) h.1 in
      let y = front_fits e (End ∷ flat b rest) x.1.1 in
      let z = front_fits b rest y.1.1 in
      ((h.0, x.0, y.0, z.0), z.1)
  front_fits (loop a k t b) rest h =
      let x = front_fits t (Again ∷ flat b rest) h.1 in
      let y = front_fits b rest x.1.1 in
      ((h.0.0, x.0, y.0, h.0.1), y.1)

  -- blocks whose instructions are within bounds
  pub block_fits : (code : List Instruction) → ((p : ℕ) → p < length code → bound r u (get_or code p Again) ≡ true) → (b : Block Bool) → flat b [] ≡ code → FitBlock r u b
  block_fits code h b e = (front_fits b [] (subst FitRow (sym e) (row_fits code h))).0
