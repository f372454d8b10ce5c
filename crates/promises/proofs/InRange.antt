-- Every access of a run is to an offset below the length of its table.
use Rattle.std.proofs.Common.{◌≡◌, ℕ, zero, suc, pred, ◌+◌, ◌<◌, min, Bool, true, false, ltb, List, [], ◌∷◌, drop, refl}
use Rattle.std.proofs.lemmas.Bool.{ltb-true}
use Rattle.instructions.specs.declared.Op.{Op}
use Rattle.instructions.specs.declared.Op.TheVariants.{Set, Pick, Load, Store}
use Rattle.instructions.specs.declared.Instruction.{Instruction}
use Rattle.instructions.specs.declared.Instruction.TheVariants.{Do, If, Else, End, Repeat, Again}
use Rattle.program.specs.declared.header.Table.{Table}
use Rattle.program.specs.Headers.{first_cell}
use Rattle.machine.specs.declared.repeat.OpenRepeat.{OpenRepeat}
use Rattle.machine.specs.States.{Event, visit, reads, writes, State}
use Rattle.machine.specs.Machine.{Out, fine, fault, length_of, loads, stores, does, Conf, go, stop, state_of, land, begin, goes_on, back, test, step, next, steps}
use Rattle.execution.proofs.Counted.{state_in}

abbrev pub InRange : List Table → List Event → Type 0
InRange tables [] = Unit {0}
InRange tables (visit p c ∷ t) = InRange tables t
InRange tables (reads p b i ∷ t) = (i < length_of tables b) × InRange tables t
InRange tables (writes p b i ∷ t) = (i < length_of tables b) × InRange tables t

module _ (tables : List Table) (code : List Instruction) where
  abbrev Ranged : Conf → Type 0
  Ranged c = InRange tables (state_of c).trace

  load_ranged : (v : Bool) (p d b i c : ℕ) (s : State) → ltb i (length_of tables b) ≡ v → InRange tables s.trace → InRange tables (state_in (loads v p d b i c s)).trace
  load_ranged true p d b i c s e h = (ltb-true i (length_of tables b) e, h)
  load_ranged false p d b i c s e h = h

  store_ranged : (v : Bool) (p d b i c : ℕ) (s : State) → ltb i (length_of tables b) ≡ v → InRange tables s.trace → InRange tables (state_in (stores v p d b i c s)).trace
  store_ranged true p d b i c s e h = (ltb-true i (length_of tables b) e, h)
  store_ranged false p d b i c s e h = h

  op_ranged : (p : ℕ) (o : Op) (s : State) → InRange tables s.trace → InRange tables (state_in (does tables p o s)).trace
  op_ranged p (Set d v) s h = h
  op_ranged p (Pick d a b) s h = h
  op_ranged p (Load d a b) s h = load_ranged (ltb (s.registers a) (length_of tables b)) p d b (s.registers a) (first_cell tables b + s.registers a) s refl h
  op_ranged p (Store d a b) s h = store_ranged (ltb (s.registers a) (length_of tables b)) p d b (s.registers a) (first_cell tables b + s.registers a) s refl h

  land_ranged : (o : Out) (p : ℕ) (fs : List OpenRepeat) → InRange tables (state_in o).trace → Ranged (land o p fs)
  land_ranged (fine s) p fs h = h
  land_ranged (fault q s) p fs h = h

  test_ranged : (n p : ℕ) (is : List Instruction) (fs : List OpenRepeat) (s : State) → InRange tables s.trace → Ranged (test tables code n p is fs s)
  test_ranged zero p is fs s h = h
  test_ranged (suc n) p is fs s h = h

  begin_ranged : (n p : ℕ) (is : List Instruction) (fs : List OpenRepeat) (s : State) → InRange tables s.trace → Ranged (begin n p is fs s)
  begin_ranged zero p is fs s h = h
  begin_ranged (suc n) p is fs s h = h

  goes_on_ranged : (n q p : ℕ) (fs : List OpenRepeat) (s : State) → InRange tables s.trace → Ranged (goes_on n q fs p s)
  goes_on_ranged zero q p fs s h = h
  goes_on_ranged (suc n) q p fs s h = h

  back_ranged : (fs : List OpenRepeat) (p : ℕ) (s : State) → InRange tables s.trace → Ranged (back fs p s)
  back_ranged [] p s h = h
  back_ranged (f ∷ fs) p s h = goes_on_ranged (pred f.left) f.start p fs s h

  step_ranged : (is : List Instruction) (p : ℕ) (fs : List OpenRepeat) (s : State) → InRange tables s.trace → Ranged (step tables code is p fs s)
  step_ranged [] p fs s h = h
  step_ranged (Do op ∷ is) p fs s h = land_ranged (does tables p op s) (suc p) fs (op_ranged p op s h)
  step_ranged (If a ∷ is) p fs s h = test_ranged (s.registers a) p is fs s h
  step_ranged (Else ∷ is) p fs s h = h
  step_ranged (End ∷ is) p fs s h = h
  step_ranged (Repeat a k ∷ is) p fs s h = begin_ranged (min (s.registers a) k) p is fs s h
  step_ranged (Again ∷ is) p fs s h = back_ranged fs p s h

  next_ranged : (c : Conf) → Ranged c → Ranged (next tables code c)
  next_ranged (go p fs s) h = step_ranged (drop p code) p fs s h
  next_ranged (stop p s) h = h

  pub in_range : (n : ℕ) (c : Conf) → Ranged c → Ranged (steps tables code n c)
  in_range zero c h = h
  in_range (suc n) c h = in_range n (next tables code c) (next_ranged c h)
