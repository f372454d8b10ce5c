-- Converted blocks never fault, and do what the predicated machine does on their source.
use Rattle.std.proofs.Common.{◌≡◌, ℕ, zero, suc, ◌+◌, ◌<◌, ◌≤◌, min, Bool, true, false, List, refl, ap, ◌∙◌, arith}
use Rattle.instructions.specs.declared.Op.{Op}
use Rattle.program.specs.declared.header.Table.{Table}
use Rattle.program.specs.Blocks.{Block, done, one, if_then, if_else, loop, depth, fin}
use Rattle.machine.specs.declared.visit.Choice.TheVariants.{Onward, Inward, Past}
use Rattle.machine.specs.States.{State, visited}
use Rattle.machine.specs.Machine.{Out, fine, if_not0}
use Rattle.machine.specs.Nested.{and_then, rounds, repeats, either, exec}
use Rattle.groups.specs.Groups.{lengths, mask_at, op_group, if_group, else_group}
use Rattle.conversion.specs.Trees.{FitBlock, ops, converted}
use Rattle.simulation.specs.Simulation.{Roomy}
use Rattle.simulation.proofs.Straight.{Words, words_of, effects, AllInRange, straight}
use Rattle.simulation.proofs.Predicated.{Near, opened, inverted, times, predicated_op, predicated}
use Rattle.simulation.proofs.Groups.{group_in_range, group_near, if_in_range, if_near, else_in_range, else_near}

module _ (tables : List Table) where
  -- F comes to the block k, after what f does to the words
  abbrev pub Reaches : (State → Out) → Block Bool → (Words → Words) → Type 0
  Reaches F k f = (s : State) (u : Words) → Near (words_of s) u → (q : ℕ) × (z : State) × (F s ≡ exec tables k q z) × Near (words_of z) (f u)

  and_on : (F : State → Out) (k l : Block Bool) (f g : Words → Words) → Reaches F k f → ((q : ℕ) → Reaches (exec tables k q) l g) → Reaches F l (λ u. g (f u))
  and_on F k l f g α β s u h =
      let x = α s u h in
      let y = β x.0 x.1 (f u) x.3 in
      (y.0, y.1, x.2 ∙ y.2, y.3)

  -- F alone, and then K
  and_next : (F K : State → Out) (l : Block Bool) (f g : Words → Words) → Reaches F done f → Reaches K l g → Reaches (λ s. and_then (F s) K) l (λ u. g (f u))
  and_next F K l f g α β s u h =
      let x = α s u h in
      let y = β x.1 (f u) x.3 in
      (y.0, y.1, ap (λ o. and_then o K) x.2 ∙ y.2, y.3)

  either_at : (n p : ℕ) (F G : State → Out) (f g : Words → Words) → Reaches F done f → Reaches G done g → Reaches (either n p F G) done (λ u. if_not0 n (f u) (g u))
  either_at zero p F G f g α β s u h = β (visited p Past s) u h
  either_at (suc n) p F G f g α β s u h = α (visited p Inward s) u h

  either_reaches : (a p : ℕ) (F G : State → Out) (f g : Words → Words) → a < 16 → Reaches F done f → Reaches G done g
      → Reaches (λ s. either (s.registers a) p F G s) done (λ u. if_not0 (u.registers a) (f u) (g u))
  either_reaches a p F G f g l α β s u h =
      let x = either_at (u.registers a) p F G f g α β s u h in
      (x.0, x.1, ap (λ m. either m p F G s) (h.registers a (omega arith)) ∙ x.2, x.3)

  rounds_reach : (m q : ℕ) (F : State → Out) (f : Words → Words) → Reaches F done f → Reaches (rounds F q m) done (times (suc m) f)
  rounds_reach zero q F f α = and_next F (λ z. fine (visited q Past z)) done f (λ u. u) α (λ s u h. (0, visited q Past s, refl, h))
  rounds_reach (suc m) q F f α = and_next F (λ z. rounds F q m (visited q Inward z)) done f (times (suc m) f) α (λ s u h. rounds_reach m q F f α (visited q Inward s) u h)

  repeats_at : (m p q : ℕ) (F : State → Out) (f : Words → Words) → Reaches F done f → Reaches (repeats F p q m) done (times m f)
  repeats_at zero p q F f α s u h = (0, visited p Past s, refl, h)
  repeats_at (suc m) p q F f α s u h = rounds_reach m q F f α (visited p Inward s) u h

  repeats_reach : (a n p q : ℕ) (F : State → Out) (f : Words → Words) → a < 16 → Reaches F done f
      → Reaches (λ s. repeats F p q (min (s.registers a) n) s) done (λ u. times (min (u.registers a) n) f u)
  repeats_reach a n p q F f l α s u h =
      let x = repeats_at (min (u.registers a) n) p q F f α s u h in
      (x.0, x.1, ap (λ m. repeats F p q (min m n) s) (h.registers a (omega arith)) ∙ x.2, x.3)

  ops_reach : (os : List Op) (k : Block Bool) (q : ℕ) (f : Words → Words) → ((z : Words) → AllInRange tables os z)
      → ((z u : Words) → Near z u → Near (effects tables os z) (f u)) → Reaches (exec tables (ops os k) q) k f
  ops_reach os k q f safe near s u h =
      let x = straight tables os k q s (safe (words_of s)) in
      (x.0, x.1, x.2, rw x.3 (near (words_of s) u h))

module _ (tables : List Table) (used : ℕ) (roomy : Roomy tables used) where
  pub reaches : (b : Block Bool) (s p q : ℕ) (k : Block Bool) → FitBlock 16 used b → s + depth b ≤ 8
      → Reaches tables (exec tables (converted (lengths tables) s b p k) q) k (predicated tables s b p)
  reaches done s p q k w d = λ z u h. (q, z, refl, h)
  reaches (one o b) s p q k w d =
      and_on tables _ (converted (lengths tables) s b (suc p) k) k (predicated_op tables s p o) (predicated tables s b (suc p))
      (ops_reach tables (op_group (lengths tables) (mask_at s) p o) _ q (predicated_op tables s p o)
      (λ z. group_in_range tables used roomy s p o z w.0 (omega arith)) (λ z u. group_near tables used s p o z u w.0 (omega arith)))
      (λ r. reaches b s (suc p) r k w.1 d)
  reaches (if_then true a t b) s p q k w d =
      let p1 = suc (fin t (suc p)) in
      let kb = converted (lengths tables) s b p1 k in
      let kt = converted (lengths tables) (suc s) t (suc p) kb in
      let pt = predicated tables (suc s) t (suc p) in
      let pb = predicated tables s b p1 in
      and_on tables _ kt k (opened s a) (λ z. pb (pt z))
      (ops_reach tables (if_group (mask_at s) (16 + s) a) kt q (opened s a) (if_in_range tables used s a) (λ z u. if_near tables used s a z u w.0 (omega arith)))
      (λ r. and_on tables _ kb k pt pb (reaches t (suc s) (suc p) r kb w.1 (omega arith)) (λ r'. reaches b s p1 r' k w.2 (omega arith)))
  reaches (if_then false a t b) s p q k w d =
      let T = converted (lengths tables) s t (suc p) done in
      let q1 = fin T (suc q) in
      let pt = predicated tables s t (suc p) in
      and_next tables (λ z. either (z.registers a) q (exec tables T (suc q)) fine z) _ k (λ z. if_not0 (z.registers a) (pt z) z) (predicated tables s b _)
      (either_reaches tables a q (exec tables T (suc q)) fine pt (λ z. z) w.0 (reaches t s (suc p) (suc q) done w.1 (omega arith)) (λ z u h. (0, z, refl, h)))
      (λ z u h. reaches b s _ (suc q1) k w.2 (omega arith) (visited q1 Onward z) u h)
  reaches (if_else true a t e b) s p q k w d =
      let r = fin t (suc p) in
      let p1 = suc (fin e (suc r)) in
      let kb = converted (lengths tables) s b p1 k in
      let ke = converted (lengths tables) (suc s) e (suc r) kb in
      let ko = ops (else_group (mask_at s) (16 + s)) ke in
      let kt = converted (lengths tables) (suc s) t (suc p) ko in
      let pt = predicated tables (suc s) t (suc p) in
      let pe = predicated tables (suc s) e (suc r) in
      let pb = predicated tables s b p1 in
      and_on tables _ kt k (opened s a) (λ z. pb (pe (inverted s (pt z))))
      (ops_reach tables (if_group (mask_at s) (16 + s) a) kt q (opened s a) (if_in_range tables used s a) (λ z u. if_near tables used s a z u w.0 (omega arith)))
      (λ q1. and_on tables _ ko k pt (λ z. pb (pe (inverted s z))) (reaches t (suc s) (suc p) q1 ko w.1 (omega arith))
      (λ q2. and_on tables _ ke k (inverted s) (λ z. pb (pe z))
      (ops_reach tables (else_group (mask_at s) (16 + s)) ke q2 (inverted s) (else_in_range tables used s) (λ z u. else_near tables used s z u (omega arith)))
      (λ q3. and_on tables _ kb k pe pb (reaches e (suc s) (suc r) q3 kb w.2 (omega arith)) (λ q4. reaches b s p1 q4 k w.3 (omega arith)))))
  reaches (if_else false a t e b) s p q k w d =
      let r = fin t (suc p) in
      let T = converted (lengths tables) s t (suc p) done in
      let E = converted (lengths tables) s e (suc r) done in
      let q1 = fin T (suc q) in
      let q2 = fin E (suc q1) in
      let pt = predicated tables s t (suc p) in
      let pe = predicated tables s e (suc r) in
      let F = λ (y : State). and_then (exec tables T (suc q) y) (λ v. fine (visited q1 Onward v)) in
      and_next tables (λ z. either (z.registers a) q F (exec tables E (suc q1)) z) _ k (λ z. if_not0 (z.registers a) (pt z) (pe z)) (predicated tables s b _)
      (either_reaches tables a q F (exec tables E (suc q1)) pt pe w.0
      (and_next tables (exec tables T (suc q)) _ done pt (λ z. z) (reaches t s (suc p) (suc q) done w.1 (omega arith)) (λ z u h. (0, visited q1 Onward z, refl, h)))
      (reaches e s (suc r) (suc q1) done w.2 (omega arith)))
      (λ z u h. reaches b s _ (suc q2) k w.3 (omega arith) (visited q2 Onward z) u h)
  reaches (loop a n t b) s p q k w d =
      let T = converted (lengths tables) s t (suc p) done in
      let q1 = fin T (suc q) in
      let pt = predicated tables s t (suc p) in
      and_next tables (λ z. repeats (exec tables T (suc q)) q q1 (min (z.registers a) n) z) _ k (λ z. times (min (z.registers a) n) pt z) (predicated tables s b _)
      (repeats_reach tables a n q q1 (exec tables T (suc q)) pt w.0 (reaches t s (suc p) (suc q) done w.1 (omega arith)))
      (reaches b s _ (suc q1) k w.2 (omega arith))
