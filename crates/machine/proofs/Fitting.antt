-- The bounds of an instruction, from test to facts.
use Rattle.std.proofs.Common.{◌≡◌, ℕ, ◌<◌, ◌≤◌, true, ◌&&◌, ltb, leb, arith}
use Rattle.std.proofs.lemmas.Bool.{ltb-true, leb-true, and_parts}
use Rattle.instructions.specs.declared.Value.{Value}
use Rattle.instructions.specs.declared.Value.TheVariants.{Const, Move, Binary, Shift}
use Rattle.instructions.specs.declared.Op.{Op}
use Rattle.instructions.specs.declared.Op.TheVariants.{Set, Pick, Load, Store}
use Rattle.instructions.specs.declared.Instruction.{Instruction}
use Rattle.instructions.specs.declared.Instruction.TheVariants.{Do, If, Else, End, Repeat, Again}
use Rattle.program.specs.declared.header.Kind.{Kind}
use Rattle.program.specs.declared.header.Kind.TheVariants.{Source, Converted}
use Rattle.program.specs.Headers.{registers_of}
use Rattle.program.specs.Bounds.{bound_value, bound_op, bound}
use Rattle.machine.specs.Fits.{FitValue, FitOp, Fit}

pub few_registers : (k : Kind) → registers_of k ≤ 32
few_registers Source = omega arith
few_registers Converted = omega arith

module _ (r t : ℕ) (few : r ≤ 32) where
  below : (a : ℕ) → ltb a r ≡ true → a < 32
  below a e = let h = ltb-true a r e in omega arith

  two : (a b : ℕ) → (ltb a r && ltb b r) ≡ true → (a < 32) × (b < 32)
  two a b e = let p = and_parts (ltb a r) (ltb b r) e in (below a p.0, below b p.1)

  value_fits : (v : Value) → bound_value r t v ≡ true → FitValue 32 v
  value_fits (Const word) e = tt
  value_fits (Move a) e = below a e
  value_fits (Binary op a b) e = two a b e
  value_fits (Shift op a k) e = let p = and_parts (ltb a r) (ltb k 32) e in (below a p.0, ltb-true k 32 p.1)

  access_fits : (d a b : ℕ) → (ltb d r && (ltb a r && ltb b t)) ≡ true → (d < 32) × (a < 32) × (b < t)
  access_fits d a b e =
      let p = and_parts (ltb d r) (ltb a r && ltb b t) e in
      let q = and_parts (ltb a r) (ltb b t) p.1 in
      (below d p.0, below a q.0, ltb-true b t q.1)

  op_fits : (o : Op) → bound_op r t o ≡ true → FitOp 32 t o
  op_fits (Set d v) e = let p = and_parts (ltb d r) (bound_value r t v) e in (below d p.0, value_fits v p.1)
  op_fits (Pick d a b) e =
      let p = and_parts (ltb d r) (ltb a r && ltb b r) e in
      let q = two a b p.1 in
      (below d p.0, q.0, q.1)
  op_fits (Load d a b) e = access_fits d a b e
  op_fits (Store d a b) e = access_fits d a b e

  pub fits : (i : Instruction) → bound r t i ≡ true → Fit 32 t i
  fits (Do op) e = op_fits op e
  fits (If a) e = below a e
  fits Else e = tt
  fits End e = tt
  fits (Repeat a k) e =
      let p = and_parts (ltb a r) (leb 1 k && leb k 1024) e in
      let q = and_parts (leb 1 k) (leb k 1024) p.1 in
      (below a p.0, leb-true k 1024 q.1)
  fits Again e = tt

op_eight : (t : ℕ) (o : Op) → t ≤ 8 → FitOp 32 t o → FitOp 32 8 o
op_eight t (Set d v) h f = f
op_eight t (Pick d a b) h f = f
op_eight t (Load d a b) h f = (f.0, f.1, omega arith)
op_eight t (Store d a b) h f = (f.0, f.1, omega arith)

-- a table that the header has is one of eight
pub fits_eight : (t : ℕ) (i : Instruction) → t ≤ 8 → Fit 32 t i → Fit 32 8 i
fits_eight t (Do o) h f = op_eight t o h f
fits_eight t (If a) h f = f
fits_eight t Else h f = f
fits_eight t End h f = f
fits_eight t (Repeat a k) h f = f
fits_eight t Again h f = f
