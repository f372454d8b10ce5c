-- Each group does what its op does on the predicated machine.
use Rattle.std.proofs.Common.{◌≡◌, ℕ, zero, suc, ◌+◌, ◌<◌, ◌≤◌, Bool, true, false, cond, eqb, ltb, List, refl, ap, arith, ne_eqb, eq-eqb, lt-ltb}
use Rattle.instructions.specs.declared.Value.{Value}
use Rattle.instructions.specs.declared.Value.TheVariants.{Const, Move, Binary, Shift}
use Rattle.instructions.specs.declared.Op.{Op}
use Rattle.instructions.specs.declared.Op.TheVariants.{Set, Pick, Load, Store}
use Rattle.program.specs.declared.header.Table.{Table}
use Rattle.machine.specs.Fits.{FitValue, FitOp}
use Rattle.machine.specs.Words.{bit, value_of}
use Rattle.machine.specs.Machine.{if_not0, length_of}
use Rattle.groups.specs.Groups.{lengths, mask_at, op_group, if_group, else_group}
use Rattle.simulation.specs.Simulation.{Roomy}
use Rattle.simulation.proofs.Straight.{Words, effects, AllInRange}
use Rattle.simulation.proofs.Predicated.{Near, opened, inverted, predicated_op}

-- a register below 25 is none of those that groups use
pub record Apart (x : ℕ) : Type 0 where
  pub e25 : eqb x 25 ≡ false
  pub e26 : eqb x 26 ≡ false
  pub e27 : eqb x 27 ≡ false
  pub e28 : eqb x 28 ≡ false

apart : (x : ℕ) → x < 25 → Apart x
apart x h = record {
  e25 = ne_eqb x 25 (λ e. omega arith);
  e26 = ne_eqb x 26 (λ e. omega arith);
  e27 = ne_eqb x 27 (λ e. omega arith);
  e28 = ne_eqb x 28 (λ e. omega arith);
}

-- a register below 24, read in two near states
pub record Read (s u : Words) (x : ℕ) : Type 0 where
  pub e24 : eqb x 24 ≡ false
  pub e25 : eqb x 25 ≡ false
  pub e26 : eqb x 26 ≡ false
  pub e27 : eqb x 27 ≡ false
  pub e28 : eqb x 28 ≡ false
  pub same : s.registers x ≡ u.registers x

pub read : (s u : Words) → Near s u → (x : ℕ) → x < 24 → Read s u x
read s u h x l =
    let A = apart x (omega arith) in
    record { e24 = ne_eqb x 24 (λ e. omega arith); e25 = A.e25; e26 = A.e26; e27 = A.e27; e28 = A.e28; same = h.registers x (omega arith) }

cell_at : (s u : Words) → Near s u → (c : ℕ) → s.cells c ≡ u.cells c
cell_at s u h c = ap (λ f. f c) h.cells

-- the index, or 0, is in range
index_within : (x t : ℕ) → 0 < t → (c : Bool) → ltb x t ≡ c → ltb (if_not0 (bit c) x 0) t ≡ true
index_within x t h true e = e
index_within x t h false e = lt-ltb 0 t h

-- a value by registers that agree
pub value_same : (v : Value) (f g : ℕ → ℕ) → FitValue 16 v → ((r : ℕ) → r < 16 → f r ≡ g r) → value_of v f ≡ value_of v g
value_same (Const k) f g w h = refl
value_same (Move a) f g w h = h a w
value_same (Binary op a b) f g w h = rw (h a w.0, h b w.1) refl
value_same (Shift op a k) f g w h = rw (h a w.0) refl

cond_twice : (c : Bool) (x y z : ℕ) → cond c x (cond c y z) ≡ cond c x z
cond_twice true x y z = refl
cond_twice false x y z = refl

module _ (tables : List Table) (used : ℕ) (roomy : Roomy tables used) where
  pub group_in_range : (s p : ℕ) (o : Op) (z : Words) → FitOp 16 used o → s ≤ 8 → AllInRange tables (op_group (lengths tables) (mask_at s) p o) z
  group_in_range zero p (Set d v) z w hs = (tt, tt)
  group_in_range zero p (Pick d a b) z w hs = (tt, tt)
  group_in_range zero p (Load d a t) z w hs =
      let A = apart a (omega arith) in
      let i = index_within (z.registers a) (length_of tables t) (roomy t w.2) (ltb (z.registers a) (length_of tables t)) refl in
      (tt, (tt, (tt, (tt, (tt, (tt, (tt, (tt, (tt, (tt, (simp (A.e25, A.e26) i, tt)))))))))))
  group_in_range zero p (Store d a t) z w hs =
      let A = apart a (omega arith) in
      let i = index_within (z.registers a) (length_of tables t) (roomy t w.2) (ltb (z.registers a) (length_of tables t)) refl in
      (tt, (tt, (tt, (tt, (tt, (tt, (tt, (tt, (tt, (tt, (simp (A.e25, A.e26) i, (tt, (simp (A.e25, A.e26) i, tt)))))))))))))
  group_in_range (suc n) p (Set d v) z w hs = (tt, (tt, tt))
  group_in_range (suc n) p (Pick d a b) z w hs = (tt, (tt, (tt, tt)))
  group_in_range (suc n) p (Load d a t) z w hs =
      let A = apart a (omega arith) in
      let i = index_within (z.registers a) (length_of tables t) (roomy t w.2) (ltb (z.registers a) (length_of tables t)) refl in
      (tt, (tt, (tt, (tt, (tt, (tt, (tt, (tt, (tt, (tt, (tt, (simp (A.e25, A.e26) i, (tt, tt)))))))))))))
  group_in_range (suc n) p (Store d a t) z w hs =
      let A = apart a (omega arith) in
      let i = index_within (z.registers a) (length_of tables t) (roomy t w.2) (ltb (z.registers a) (length_of tables t)) refl in
      (tt, (tt, (tt, (tt, (tt, (tt, (tt, (tt, (tt, (tt, (tt, (tt, (simp (A.e25, A.e26) i, (tt, (simp (A.e25, A.e26) i, tt)))))))))))))))

module _ (tables : List Table) (used : ℕ) where
  pub group_near : (s p : ℕ) (o : Op) (z u : Words) → FitOp 16 used o → s ≤ 8 → Near z u
      → Near (effects tables (op_group (lengths tables) (mask_at s) p o) z) (predicated_op tables s p o u)
  group_near zero p (Set d v) z u w hs h =
      let e = value_same v z.registers u.registers w.1 (λ x hx. h.registers x (omega arith)) in
      record { registers = λ x hx. simp (e, h.registers x hx); cells = h.cells }
  group_near zero p (Pick d a b) z u w hs h =
      let A = read z u h a (omega arith) in
      let B = read z u h b (omega arith) in
      let D = read z u h d (omega arith) in
      record { registers = λ x hx. simp (A.same, B.same, D.same, h.registers x hx); cells = h.cells }
  group_near zero p (Load d a t) z u w hs h =
      let A = read z u h a (omega arith) in
      let r24 = h.registers 24 (omega arith) in
      record {
        registers = λ x hx.
            let X = apart x hx in
            simp (X.e25, X.e26, X.e27, X.e28, A.e25, A.e26, A.same, r24, h.registers x hx, cell_at z u h);
        cells = h.cells;
      }
  group_near zero p (Store d a t) z u w hs h =
      let A = read z u h a (omega arith) in
      let D = read z u h d (omega arith) in
      let r24 = h.registers 24 (omega arith) in
      record {
        registers = λ x hx.
            let X = apart x hx in
            simp (X.e25, X.e26, X.e27, X.e28, A.e25, A.e26, A.same, r24, h.registers x hx);
        cells = simp (A.e25, A.e26, D.e24, D.e25, D.e26, D.e27, D.e28, A.same, D.same, cell_at z u h, h.cells);
      }
  group_near (suc n) p (Set d v) z u w hs h =
      let e = value_same v z.registers u.registers w.1 (λ x hx. h.registers x (omega arith)) in
      let D = read z u h d (omega arith) in
      let M = read z u h (16 + n) (omega arith) in
      record { registers = λ x hx. simp (e, D.e25, M.e25, (apart x hx).e25, D.same, M.same, h.registers x hx); cells = h.cells }
  group_near (suc n) p (Pick d a b) z u w hs h =
      let A = read z u h a (omega arith) in
      let B = read z u h b (omega arith) in
      let D = read z u h d (omega arith) in
      let M = read z u h (16 + n) (omega arith) in
      record {
        registers = λ x hx. simp (A.e25, B.e25, D.e25, M.e25, (apart x hx).e25, A.same, B.same, D.same, M.same, h.registers x hx);
        cells = h.cells;
      }
  group_near (suc n) p (Load d a t) z u w hs h =
      let A = read z u h a (omega arith) in
      let D = read z u h d (omega arith) in
      let M = read z u h (16 + n) (omega arith) in
      let r24 = h.registers 24 (omega arith) in
      record {
        registers = λ x hx.
            let X = apart x hx in
            simp (X.e25, X.e26, X.e27, X.e28, A.e25, A.e26, D.e24, D.e25, D.e26, D.e27, D.e28, M.e24, M.e25, M.e26, M.e27, M.e28, A.same, D.same, M.same, r24, h.registers x hx, cell_at z u h);
        cells = h.cells;
      }
  group_near (suc n) p (Store d a t) z u w hs h =
      let A = read z u h a (omega arith) in
      let D = read z u h d (omega arith) in
      let M = read z u h (16 + n) (omega arith) in
      let r24 = h.registers 24 (omega arith) in
      record {
        registers = λ x hx.
            let X = apart x hx in
            simp (X.e25, X.e26, X.e27, X.e28, A.e25, A.e26, M.e25, M.e26, M.e27, M.e28, A.same, M.same, r24, h.registers x hx);
        cells = simp (A.e25, A.e26, D.e24, D.e25, D.e26, D.e27, D.e28, M.e24, M.e25, M.e26, M.e27, M.e28, A.same, D.same, M.same, cell_at z u h, h.cells);
      }

  pub if_in_range : (s a : ℕ) (z : Words) → AllInRange tables (if_group (mask_at s) (16 + s) a) z
  if_in_range zero a z = (tt, (tt, (tt, tt)))
  if_in_range (suc n) a z = (tt, (tt, (tt, (tt, tt))))

  pub if_near : (s a : ℕ) (z u : Words) → a < 16 → s < 8 → Near z u → Near (effects tables (if_group (mask_at s) (16 + s) a) z) (opened s a u)
  if_near zero a z u ha hs h =
      let A = read z u h a (omega arith) in
      record {
        registers = λ x hx. let X = apart x hx in simp (A.e25, X.e25, X.e26, A.same, h.registers x hx);
        cells = h.cells;
      }
  if_near (suc n) a z u ha hs h =
      let A = read z u h a (omega arith) in
      let M = read z u h (16 + n) (omega arith) in
      let N : eqb (16 + suc n) (16 + suc n) ≡ true = eq-eqb (16 + suc n) (16 + suc n) refl in
      let MN : eqb (16 + n) (16 + suc n) ≡ false = ne_eqb (16 + n) (16 + suc n) (λ e. omega arith) in
      record {
        registers = λ x hx. let X = apart x hx in simp (cond_twice, A.e25, X.e25, X.e26, M.e25, M.e26, N, MN, A.same, M.same, h.registers x hx);
        cells = h.cells;
      }

  pub else_in_range : (s : ℕ) (z : Words) → AllInRange tables (else_group (mask_at s) (16 + s)) z
  else_in_range zero z = (tt, (tt, tt))
  else_in_range (suc n) z = (tt, tt)

  pub else_near : (s : ℕ) (z u : Words) → s < 8 → Near z u → Near (effects tables (else_group (mask_at s) (16 + s)) z) (inverted s u)
  else_near zero z u hs h =
      let N = read z u h 16 (omega arith) in
      record { registers = λ x hx. let X = apart x hx in simp (X.e25, N.same, h.registers x hx); cells = h.cells }
  else_near (suc n) z u hs h =
      let N = read z u h (16 + suc n) (omega arith) in
      let M = read z u h (16 + n) (omega arith) in
      record { registers = λ x hx. simp (N.same, M.same, h.registers x hx); cells = h.cells }
