-- What a run counts only grows.
use Rattle.std.proofs.Common.{ℕ, zero, suc, pred, ◌+◌, ◌≤◌, min, true, false, ltb, List, [], ◌∷◌, drop, arith}
use Rattle.instructions.specs.declared.Op.{Op}
use Rattle.instructions.specs.declared.Op.TheVariants.{Set, Pick, Load, Store}
use Rattle.instructions.specs.declared.Instruction.{Instruction}
use Rattle.instructions.specs.declared.Instruction.TheVariants.{Do, If, Else, End, Repeat, Again}
use Rattle.program.specs.declared.header.Table.{Table}
use Rattle.program.specs.Headers.{first_cell}
use Rattle.machine.specs.declared.repeat.OpenRepeat.{OpenRepeat}
use Rattle.machine.specs.States.{State}
use Rattle.machine.specs.Machine.{length_of, loads, stores, does, Conf, go, stop, state_of, land, begin, goes_on, test, step, next, steps}
use Rattle.machine.specs.Most.{Price, weigh}

module _ (tables : List Table) (code : List Instruction) (w : Price) where
  abbrev weight : Conf → ℕ
  weight c = weigh w (state_of c).trace

  op_grows : (p q : ℕ) (o : Op) (fs : List OpenRepeat) (s : State) → weigh w s.trace ≤ weight (land (does tables p o s) q fs)
  op_grows p q (Set d v) fs s = omega arith
  op_grows p q (Pick d a b) fs s = omega arith
  op_grows p q (Load d a b) fs s = elim (ltb (s.registers a) (length_of tables b)) as (λ v. weigh w s.trace ≤ weight (land (loads v p d b (s.registers a) (first_cell tables b + s.registers a) s) q fs)) [ true ↦ omega arith | false ↦ omega arith ]
  op_grows p q (Store d a b) fs s = elim (ltb (s.registers a) (length_of tables b)) as (λ v. weigh w s.trace ≤ weight (land (stores v p d b (s.registers a) (first_cell tables b + s.registers a) s) q fs)) [ true ↦ omega arith | false ↦ omega arith ]

  test_grows : (n p : ℕ) (is : List Instruction) (fs : List OpenRepeat) (s : State) → weigh w s.trace ≤ weight (test tables code n p is fs s)
  test_grows zero p is fs s = omega arith
  test_grows (suc n) p is fs s = omega arith

  begin_grows : (n p : ℕ) (is : List Instruction) (fs : List OpenRepeat) (s : State) → weigh w s.trace ≤ weight (begin n p is fs s)
  begin_grows zero p is fs s = omega arith
  begin_grows (suc n) p is fs s = omega arith

  back_grows : (n q p : ℕ) (fs : List OpenRepeat) (s : State) → weigh w s.trace ≤ weight (goes_on n q fs p s)
  back_grows zero q p fs s = omega arith
  back_grows (suc n) q p fs s = omega arith

  step_grows : (is : List Instruction) (p : ℕ) (fs : List OpenRepeat) (s : State) → weigh w s.trace ≤ weight (step tables code is p fs s)
  step_grows [] p fs s = omega arith
  step_grows (Do o ∷ is) p fs s = op_grows p (suc p) o fs s
  step_grows (If a ∷ is) p fs s = test_grows (s.registers a) p is fs s
  step_grows (Else ∷ is) p fs s = omega arith
  step_grows (End ∷ is) p fs s = omega arith
  step_grows (Repeat a k ∷ is) p fs s = begin_grows (min (s.registers a) k) p is fs s
  step_grows (Again ∷ is) p [] s = omega arith
  step_grows (Again ∷ is) p (f ∷ fs) s = back_grows (pred f.left) f.start p fs s

  next_grows : (c : Conf) → weight c ≤ weight (next tables code c)
  next_grows (go p fs s) = step_grows (drop p code) p fs s
  next_grows (stop p s) = omega arith

  pub steps_grow : (n : ℕ) (c : Conf) → weight c ≤ weight (steps tables code n c)
  steps_grow zero c = omega arith
  steps_grow (suc n) c = let e = next_grows c in let f = steps_grow n (next tables code c) in omega arith
