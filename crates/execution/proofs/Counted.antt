-- What a run counts, against the most that its blocks can count.
use Rattle.std.proofs.Common.{◌≡◌, ℕ, zero, suc, ◌+◌, ◌*◌, ◌≤◌, min, max, true, false, ltb, List, [], ◌∷◌, refl, mul-le-mul_right, arith}
use Rattle.instructions.specs.declared.Op.{Op}
use Rattle.instructions.specs.declared.Op.TheVariants.{Set, Pick, Load, Store}
use Rattle.program.specs.declared.header.Table.{Table}
use Rattle.program.specs.Headers.{first_cell}
use Rattle.program.specs.Blocks.{Block, done, one, if_then, if_else, loop, fin}
use Rattle.machine.specs.declared.visit.Choice.TheVariants.{Onward, Inward, Past}
use Rattle.machine.specs.States.{Event, visit, reads, writes, State, visited}
use Rattle.machine.specs.Machine.{Out, fine, fault, length_of, loads, stores, does, count}
use Rattle.machine.specs.Nested.{and_then, rounds, repeats, either, exec}
use Rattle.machine.specs.Most.{Price, each_step, weigh, price, most_of}

-- the state that something comes to
abbrev pub state_in : Out → State
state_in (fine s) = s
state_in (fault p s) = s

module _ (w : Price) where
  abbrev pub len : Out → ℕ
  len o = weigh w (state_in o).trace

  -- k adds at most n
  abbrev pub Adds : ℕ → (State → Out) → Type 0
  Adds n k = (z : State) → len (k z) ≤ n + weigh w z.trace

  and_then_adds : (o : Out) (k : State → Out) (m n c : ℕ) → len o ≤ m + c → Adds n k → len (and_then o k) ≤ (m + n) + c
  and_then_adds (fine s) k m n c h g = let e = g s in omega arith
  and_then_adds (fault p s) k m n c h g = omega arith

  module _ (tables : List Table) where
    op_adds : (p : ℕ) (o : Op) → Adds (price w o) (does tables p o)
    op_adds p (Set d r) s = omega arith
    op_adds p (Pick d a b) s = omega arith
    op_adds p (Load d a b) s =
        elim (ltb (s.registers a) (length_of tables b)) as (λ v. len (loads v p d b (s.registers a) (first_cell tables b + s.registers a) s) ≤ (w.step + w.read b) + weigh w s.trace)
        [ true ↦ omega arith | false ↦ omega arith ]
    op_adds p (Store d a b) s =
        elim (ltb (s.registers a) (length_of tables b)) as (λ v. len (stores v p d b (s.registers a) (first_cell tables b + s.registers a) s) ≤ (w.step + w.write b) + weigh w s.trace)
        [ true ↦ omega arith | false ↦ omega arith ]

    either_adds : (n p m : ℕ) (F G : State → Out) → Adds m F → Adds m G → Adds (w.step + m) (either n p F G)
    either_adds zero p m F G f g s = let e = g (visited p Past s) in omega arith
    either_adds (suc n) p m F G f g s = let e = f (visited p Inward s) in omega arith

    rounds_adds : (m q n : ℕ) (F : State → Out) → Adds n F → Adds (suc m * (n + w.step)) (rounds F q m)
    rounds_adds zero q n F f s = let e = and_then_adds (F s) (λ z. fine (visited q Past z)) n w.step (weigh w s.trace) (f s) (λ z. omega arith) in omega arith
    rounds_adds (suc m) q n F f s =
        let e = and_then_adds (F s) (λ z. rounds F q m (visited q Inward z)) n (w.step + suc m * (n + w.step)) (weigh w s.trace) (f s)
        (λ z. let g = rounds_adds m q n F f (visited q Inward z) in omega arith) in
        omega arith

    repeats_adds : (m p q k n : ℕ) (F : State → Out) → Adds n F → m ≤ k → Adds (w.step + k * (n + w.step)) (repeats F p q m)
    repeats_adds zero p q k n F f h s = omega arith
    repeats_adds (suc m) p q k n F f h s = let e = rounds_adds m q n F f (visited p Inward s) in omega (arith, mul-le-mul_right (n + w.step) h)

    pub adds : {Note : Type 0} (b : Block Note) (p : ℕ) → Adds (most_of w b) (exec tables b p)
    adds done p s = omega arith
    adds (one o b) p s = and_then_adds (does tables p o s) (exec tables b (suc p)) (price w o) (most_of w b) (weigh w s.trace) (op_adds p o s) (adds b (suc p))
    adds (if_then c a t b) p s =
        let r = fin t (suc p) in
        let e = and_then_adds (either (s.registers a) p (exec tables t (suc p)) fine s) (λ z. exec tables b (suc r) (visited r Onward z)) (w.step + most_of w t) (w.step + most_of w b)
        (weigh w s.trace) (either_adds (s.registers a) p (most_of w t) (exec tables t (suc p)) fine (adds t (suc p)) (λ z. omega arith) s)
        (λ z. let g = adds b (suc r) (visited r Onward z) in omega arith) in
        omega arith
    adds (if_else c a t e b) p s =
        let r = fin t (suc p) in
        let r2 = fin e (suc r) in
        let m = max (most_of w t + w.step) (most_of w e) in
        let k = and_then_adds (either (s.registers a) p (λ y. and_then (exec tables t (suc p) y) (λ z. fine (visited r Onward z))) (exec tables e (suc r)) s) (λ z. exec tables b (suc r2) (visited r2 Onward z))
        (w.step + m) (w.step + most_of w b) (weigh w s.trace)
        (either_adds (s.registers a) p m (λ y. and_then (exec tables t (suc p) y) (λ z. fine (visited r Onward z))) (exec tables e (suc r))
        (λ z.
        let f = and_then_adds (exec tables t (suc p) z) (λ v. fine (visited r Onward v)) (most_of w t) w.step (weigh w z.trace) (adds t (suc p) z) (λ v. omega arith) in
        omega arith)
        (λ z. let f = adds e (suc r) z in omega arith) s)
        (λ z. let g = adds b (suc r2) (visited r2 Onward z) in omega arith) in
        omega arith
    adds (loop a k t b) p s =
        let r = fin t (suc p) in
        and_then_adds (repeats (exec tables t (suc p)) p r (min (s.registers a) k) s) (exec tables b (suc r)) (w.step + k * (most_of w t + w.step)) (most_of w b) (weigh w s.trace)
        (repeats_adds (min (s.registers a) k) p r k (most_of w t) (exec tables t (suc p)) (adds t (suc p)) (omega arith) s) (adds b (suc r))

pub counted : (t : List Event) → weigh each_step t ≡ count t
counted [] = refl
counted (visit p c ∷ t) = let e = counted t in omega arith
counted (reads p b i ∷ t) = let e = counted t in omega arith
counted (writes p b i ∷ t) = let e = counted t in omega arith
