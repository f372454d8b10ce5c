-- The most that converted blocks count.
use Rattle.std.proofs.Common.{◌≡◌, ℕ, zero, suc, ◌+◌, ◌≤◌, Bool, true, false, ltb, List, [], ◌∷◌, length, refl, subst, mul-le-mul_left, arith}
use Rattle.instructions.specs.declared.Op.{Op}
use Rattle.instructions.specs.declared.Op.TheVariants.{Set, Pick, Load, Store}
use Rattle.program.specs.declared.header.Table.{Table}
use Rattle.program.specs.Headers.{first_cell}
use Rattle.program.specs.Blocks.{Block, done, one, if_then, if_else, loop, fin}
use Rattle.machine.specs.States.{State}
use Rattle.machine.specs.Machine.{Out, fine, fault, length_of, loads, stores, does}
use Rattle.machine.specs.Nested.{and_then, exec}
use Rattle.machine.specs.Most.{Price, each_step, weigh, price, most_of}
use Rattle.groups.specs.Groups.{lengths, mask_at, op_group, if_group, else_group}
use Rattle.conversion.specs.Trees.{ops, converted}
use Rattle.simulation.specs.OneWay.{OpsAlone}
use Rattle.simulation.specs.Bounds.{StepsGrow, CountsMost}
use Rattle.simulation.proofs.OneWay.{one_way_ops}

abbrev most : Block Bool → ℕ
most b = most_of each_step b

-- every op is a step
op_steps : (o : Op) → price each_step o ≡ 1
op_steps (Set d v) = refl
op_steps (Pick d a b) = refl
op_steps (Load d a t) = refl
op_steps (Store d a t) = refl

ops_steps : (os : List Op) (k : Block Bool) → most (ops os k) ≡ length os + most k
ops_steps [] k = omega arith
ops_steps (o ∷ os) k = let e = ops_steps os k in let f = op_steps o in omega arith

module _ (long : ℕ → ℕ) where
  -- no group is empty, and that of an if has the two steps of an if at least
  op_some : (s p : ℕ) (o : Op) → 1 ≤ length (op_group long (mask_at s) p o)
  op_some zero p (Set d v) = omega arith
  op_some zero p (Pick d a b) = omega arith
  op_some zero p (Load d a t) = omega arith
  op_some zero p (Store d a t) = omega arith
  op_some (suc n) p (Set d v) = omega arith
  op_some (suc n) p (Pick d a b) = omega arith
  op_some (suc n) p (Load d a t) = omega arith
  op_some (suc n) p (Store d a t) = omega arith

  if_some : (s a : ℕ) → 3 ≤ length (if_group (mask_at s) (16 + s) a)
  if_some zero a = omega arith
  if_some (suc n) a = omega arith

  else_some : (s : ℕ) → 1 ≤ length (else_group (mask_at s) (16 + s))
  else_some zero = omega arith
  else_some (suc n) = omega arith

  grow : (b : Block Bool) (s p : ℕ) (k : Block Bool) → most b + most k ≤ most (converted long s b p k)
  grow done s p k = omega arith
  grow (one o b) s p k =
      let e = ops_steps (op_group long (mask_at s) p o) (converted long s b (suc p) k) in
      let f = grow b s (suc p) k in
      let g = op_some s p o in
      let h = op_steps o in
      omega arith
  grow (if_then true a t b) s p k =
      let kb = converted long s b (suc (fin t (suc p))) k in
      let e = ops_steps (if_group (mask_at s) (16 + s) a) (converted long (suc s) t (suc p) kb) in
      let f = grow t (suc s) (suc p) kb in
      let g = grow b s (suc (fin t (suc p))) k in
      let h = if_some s a in
      omega arith
  grow (if_then false a t b) s p k =
      let f = grow t s (suc p) done in
      let g = grow b s (suc (fin t (suc p))) k in
      omega arith
  grow (if_else true a t e b) s p k =
      let q = fin t (suc p) in
      let kb = converted long s b (suc (fin e (suc q))) k in
      let ke = converted long (suc s) e (suc q) kb in
      let ko = ops (else_group (mask_at s) (16 + s)) ke in
      let x = ops_steps (if_group (mask_at s) (16 + s) a) (converted long (suc s) t (suc p) ko) in
      let y = ops_steps (else_group (mask_at s) (16 + s)) ke in
      let f = grow t (suc s) (suc p) ko in
      let g = grow e (suc s) (suc q) kb in
      let h = grow b s (suc (fin e (suc q))) k in
      let i = if_some s a in
      let j = else_some s in
      omega arith
  grow (if_else false a t e b) s p k =
      let q = fin t (suc p) in
      let f = grow t s (suc p) done in
      let g = grow e s (suc q) done in
      let h = grow b s (suc (fin e (suc q))) k in
      omega arith
  grow (loop a n t b) s p k =
      let f = grow t s (suc p) done in
      let g : most t + 1 ≤ most (converted long s t (suc p) done) + 1 = omega arith in
      let h = grow b s (suc (fin t (suc p))) k in
      omega (arith, mul-le-mul_left n g)

pub steps_grow : StepsGrow
steps_grow long b p = let e = grow long b 0 p done in omega arith

module _ (w : Price) (tables : List Table) where
  -- what a part of a run counts where it is fine
  abbrev Weighs : Out → ℕ → Type 0
  Weighs (fine z) n = weigh w z.trace ≡ n
  Weighs (fault p z) n = Unit {0}

  load_weighs : (c : Bool) (p d t i m : ℕ) (s : State) → Weighs (loads c p d t i m s) ((w.step + w.read t) + weigh w s.trace)
  load_weighs true p d t i m s = omega arith
  load_weighs false p d t i m s = tt

  store_weighs : (c : Bool) (p d t i m : ℕ) (s : State) → Weighs (stores c p d t i m s) ((w.step + w.write t) + weigh w s.trace)
  store_weighs true p d t i m s = omega arith
  store_weighs false p d t i m s = tt

  op_weighs : (p : ℕ) (o : Op) (s : State) → Weighs (does tables p o s) (price w o + weigh w s.trace)
  op_weighs p (Set d v) s = refl
  op_weighs p (Pick d a b) s = refl
  op_weighs p (Load d a t) s = load_weighs (ltb (s.registers a) (length_of tables t)) p d t (s.registers a) (first_cell tables t + s.registers a) s
  op_weighs p (Store d a t) s = store_weighs (ltb (s.registers a) (length_of tables t)) p d t (s.registers a) (first_cell tables t + s.registers a) s

  and_then_weighs : (o : Out) (k : State → Out) (n m : ℕ) → Weighs o n → ((z : State) → Weighs (k z) (m + weigh w z.trace)) → Weighs (and_then o k) (m + n)
  and_then_weighs (fine z) k n m e h = subst (λ x. Weighs (k z) (m + x)) e (h z)
  and_then_weighs (fault p z) k n m e h = tt

  -- ops alone count the most
  alone_weighs : (b : Block Bool) (p : ℕ) (s : State) → OpsAlone b → Weighs (exec tables b p s) (most_of w b + weigh w s.trace)
  alone_weighs done p s h = omega arith
  alone_weighs (one o b) p s h =
      let e : most_of w b + (price w o + weigh w s.trace) ≡ (price w o + most_of w b) + weigh w s.trace = omega arith in
      subst (Weighs (exec tables (one o b) p s)) e
      (and_then_weighs (does tables p o s) (exec tables b (suc p)) (price w o + weigh w s.trace) (most_of w b) (op_weighs p o s) (λ z. alone_weighs b (suc p) z h))
  alone_weighs (if_then c a t b) p s h = elim h [ ]
  alone_weighs (if_else c a t e b) p s h = elim h [ ]
  alone_weighs (loop a k t b) p s h = elim h [ ]

pub counts_most : CountsMost
counts_most w tables b p q s z h e =
    let c = converted (lengths tables) 0 b p done in
    subst (λ o. Weighs w tables o (most_of w c + weigh w s.trace)) e (alone_weighs w tables c q s (one_way_ops (lengths tables) b p h))
