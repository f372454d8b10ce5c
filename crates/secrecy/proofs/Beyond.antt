-- No run changes a cell beyond all tables.
use Rattle.std.proofs.Common.{◌≡◌, ℕ, zero, suc, ◌+◌, ◌≤◌, Bool, true, false, cond, ◌==◌, nat_lt, ltb-true, ne_eqb, min, List, refl, ap, ◌∙◌, arith}
use Rattle.instructions.specs.declared.Op.{Op}
use Rattle.instructions.specs.declared.Op.TheVariants.{Set, Pick, Load, Store}
use Rattle.program.specs.declared.header.Table.{Table}
use Rattle.program.specs.Headers.{cells_of, first_cell}
use Rattle.program.specs.Blocks.{Block, done, one, if_then, if_else, loop, fin}
use Rattle.machine.specs.declared.visit.Choice.TheVariants.{Onward, Inward, Past}
use Rattle.machine.specs.declared.repeat.OpenRepeat.{OpenRepeat}
use Rattle.machine.specs.States.{State, visited}
use Rattle.machine.specs.Machine.{Out, fine, fault, length_of, loads, stores, does, state_of, land}
use Rattle.machine.specs.Nested.{and_then, rounds, repeats, either, exec}
use Rattle.execution.proofs.Counted.{state_in}
use Rattle.secrecy.specs.Beyond.{BeyondStays}
use Rattle.secrecy.proofs.Apart.{tables_within}

landed : (o : Out) (q : ℕ) (fs : List OpenRepeat) → state_of (land o q fs) ≡ state_in o
landed (fine s) q fs = refl
landed (fault p s) q fs = refl

module _ (tables : List Table) (c v : ℕ) (h : cells_of tables ≤ c) where
  -- cell c has v
  abbrev Has : State → Type 0
  Has s = s.cells c ≡ v

  then : (o : Out) (k : State → Out) → Has (state_in o) → ((z : State) → Has z → Has (state_in (k z))) → Has (state_in (and_then o k))
  then (fine z) k e f = f z e
  then (fault p z) k e f = e

  load_keeps : (b : Bool) (p d t i x : ℕ) (s : State) → Has s → Has (state_in (loads b p d t i x s))
  load_keeps true p d t i x s e = e
  load_keeps false p d t i x s e = e

  store_keeps : (b : Bool) (p d t i : ℕ) (s : State) → nat_lt i (length_of tables t) ≡ b → Has s → Has (state_in (stores b p d t i (first_cell tables t + i) s))
  store_keeps true p d t i s f e =
      let g = tables_within tables t i (ltb-true i (length_of tables t) f) in
      let far : (c == first_cell tables t + i) ≡ false = ne_eqb c (first_cell tables t + i) (λ same. omega arith) in
      ap (λ a. cond a (s.registers d) (s.cells c)) far ∙ e
  store_keeps false p d t i s f e = e

  op_keeps : (p : ℕ) (op : Op) (s : State) → Has s → Has (state_in (does tables p op s))
  op_keeps p (Set d x) s e = e
  op_keeps p (Pick d a b) s e = e
  op_keeps p (Load d a t) s e = load_keeps (nat_lt (s.registers a) (length_of tables t)) p d t (s.registers a) (first_cell tables t + s.registers a) s e
  op_keeps p (Store d a t) s e = store_keeps (nat_lt (s.registers a) (length_of tables t)) p d t (s.registers a) s refl e

  -- a part of a run leaves what cell c has
  abbrev Keeps : (State → Out) → Type 0
  Keeps f = (s : State) → Has s → Has (state_in (f s))

  either_keeps : (n p : ℕ) (f g : State → Out) → Keeps f → Keeps g → Keeps (either n p f g)
  either_keeps zero p f g kf kg s e = kg (visited p Past s) e
  either_keeps (suc n) p f g kf kg s e = kf (visited p Inward s) e

  rounds_keeps : (m q : ℕ) (f : State → Out) → Keeps f → Keeps (rounds f q m)
  rounds_keeps zero q f k s e = then (f s) _ (k s e) (λ z a. a)
  rounds_keeps (suc m) q f k s e = then (f s) _ (k s e) (λ z a. rounds_keeps m q f k (visited q Inward z) a)

  repeats_keeps : (m p q : ℕ) (f : State → Out) → Keeps f → Keeps (repeats f p q m)
  repeats_keeps zero p q f k s e = e
  repeats_keeps (suc m) p q f k s e = rounds_keeps m q f k (visited p Inward s) e

  exec_keeps : {Note : Type 0} (b : Block Note) (p : ℕ) → Keeps (exec tables b p)
  exec_keeps done p s e = e
  exec_keeps (one op b) p s e = then (does tables p op s) _ (op_keeps p op s e) (exec_keeps b (suc p))
  exec_keeps (if_then n a t b) p s e =
      let q = fin t (suc p) in
      then (either (s.registers a) p (exec tables t (suc p)) fine s) _
      (either_keeps (s.registers a) p _ fine (exec_keeps t (suc p)) (λ z f. f) s e)
      (λ z f. exec_keeps b (suc q) (visited q Onward z) f)
  exec_keeps (if_else n a t u b) p s e =
      let q = fin t (suc p) in
      let r = fin u (suc q) in
      then (either (s.registers a) p (λ y. and_then (exec tables t (suc p) y) (λ z. fine (visited q Onward z))) (exec tables u (suc q)) s) _
      (either_keeps (s.registers a) p _ _ (λ y f. then (exec tables t (suc p) y) _ (exec_keeps t (suc p) y f) (λ z g. g)) (exec_keeps u (suc q)) s e)
      (λ z f. exec_keeps b (suc r) (visited r Onward z) f)
  exec_keeps (loop a k t b) p s e =
      let q = fin t (suc p) in
      then (repeats (exec tables t (suc p)) p q (min (s.registers a) k) s) _
      (repeats_keeps (min (s.registers a) k) p q _ (exec_keeps t (suc p)) s e)
      (exec_keeps b (suc q))

pub beyond_stays : {Note : Type 0} → BeyondStays Note
beyond_stays tables b p q c fs s h =
    ap (λ z. z.cells c) (landed (exec tables b p s) q fs) ∙ exec_keeps tables c (s.cells c) h b p s refl
