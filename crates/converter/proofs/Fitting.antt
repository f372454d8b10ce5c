-- The groups keep the bounds of a converted program.
use Rattle.std.proofs.Common.{◌≡◌, ℕ, zero, suc, ◌+◌, ◌^◌, ◌<◌, ◌≤◌, Bool, true, ◌&&◌, ltb, List, [], ◌∷◌, ◌++◌, Some, None, Option, refl, arith}
use Rattle.std.proofs.lemmas.Bool.{and_parts, and_from, ltb-true, lt-ltb}
use Rattle.instructions.specs.declared.Value.{Value}
use Rattle.instructions.specs.declared.Value.TheVariants.{Const, Move, Binary, Shift}
use Rattle.instructions.specs.declared.Op.{Op}
use Rattle.instructions.specs.declared.Op.TheVariants.{Set, Pick, Load, Store}
use Rattle.program.specs.Bounds.{bound_value, bound_op}
use Rattle.groups.specs.Groups.{mask_at, and_mask, set_group, pick_group, guard_start, guard_mark, guard, load_end, exchange, store_end, op_group, is_set, if_group, else_group}

both : {x y : Bool} → x ≡ true → y ≡ true → (x && y) ≡ true
both {x} {y} p q = and_from x y p q

reg : (r : ℕ) → r < 32 → ltb r 32 ≡ true
reg r h = lt-ltb r 32 h

pub wide : (r : ℕ) → ltb r 16 ≡ true → ltb r 32 ≡ true
wide r e = let h = ltb-true r 16 e in lt-ltb r 32 (omega arith)

-- the mask, where there is one, is a register
abbrev pub MaskFits : Option ℕ → Type 0
MaskFits None = Unit {0}
MaskFits (Some m) = m < 32

pub mask_fits : (s : ℕ) → s ≤ 8 → MaskFits (mask_at s)
mask_fits zero h = tt
mask_fits (suc n) h = omega arith

module _ (used : ℕ) where
  abbrev pub AllOps : List Op → Bool
  AllOps [] = true
  AllOps (o ∷ os) = bound_op 32 used o && AllOps os

  ops_both : (xs ys : List Op) → AllOps xs ≡ true → AllOps ys ≡ true → AllOps (xs ++ ys) ≡ true
  ops_both [] ys h k = k
  ops_both (x ∷ xs) ys h k = let b = and_parts (bound_op 32 used x) (AllOps xs) h in both b.0 (ops_both xs ys b.1 k)

  wide_value : (v : Value) → bound_value 16 used v ≡ true → bound_value 32 used v ≡ true
  wide_value (Const k) e = e
  wide_value (Move a) e = wide a e
  wide_value (Binary op a b) e = let p = and_parts (ltb a 16) (ltb b 16) e in both (wide a p.0) (wide b p.1)
  wide_value (Shift op a k) e = let p = and_parts (ltb a 16) (ltb k 32) e in both (wide a p.0) p.1

  and_mask_fits : (mask : Option ℕ) (x : ℕ) → MaskFits mask → x < 32 → AllOps (and_mask mask x) ≡ true
  and_mask_fits None x m h = refl
  and_mask_fits (Some r) x m h = both (both (reg x h) (both (reg x h) (reg r m))) refl

  set_group_fits : (mask : Option ℕ) (d : ℕ) (v : Value) → MaskFits mask → ltb d 32 ≡ true → bound_value 32 used v ≡ true → AllOps (set_group mask d v) ≡ true
  set_group_fits None d v m h k = both (both h k) refl
  set_group_fits (Some r) d v m h k = both k (both (both h (both (reg r m) refl)) refl)

  pick_group_fits : (mask : Option ℕ) (d a b : ℕ) → MaskFits mask → ltb d 32 ≡ true → ltb a 32 ≡ true → ltb b 32 ≡ true → AllOps (pick_group mask d a b) ≡ true
  pick_group_fits None d a b m h k l = both (both h (both k l)) refl
  pick_group_fits (Some r) d a b m h k l = both h (both (both k l) (both (both h (both (reg r m) refl)) refl))

  guard_start_fits : (t a : ℕ) → ltb t (2 ^ 32) ≡ true → ltb a 32 ≡ true → AllOps (guard_start t a) ≡ true
  guard_start_fits t a h k = both h (both (both k refl) (both k refl))

  guard_fits : (mask : Option ℕ) (t p a : ℕ) → MaskFits mask → t ≤ 1024 → p < 200 → ltb a 32 ≡ true → AllOps (guard mask t p a) ≡ true
  guard_fits mask t p a m h q k =
      let mark : AllOps (guard_mark p) ≡ true = both (lt-ltb (p + 1) (2 ^ 32) (omega arith)) refl in
      ops_both (guard_start t a) (and_mask mask 27 ++ guard_mark p) (guard_start_fits t a (lt-ltb t (2 ^ 32) (omega arith)) k)
      (ops_both (and_mask mask 27) (guard_mark p) (and_mask_fits mask 27 m (omega arith)) mark)

  load_end_fits : (mask : Option ℕ) (d b : ℕ) → MaskFits mask → ltb d 32 ≡ true → ltb b used ≡ true → AllOps (load_end mask d b) ≡ true
  load_end_fits None d b m h k = both (both h k) refl
  load_end_fits (Some r) d b m h k = both k (both (both h (both (reg r m) refl)) refl)

  store_end_fits : (mask : Option ℕ) (d b : ℕ) → MaskFits mask → ltb d 32 ≡ true → ltb b used ≡ true → AllOps (store_end mask d b) ≡ true
  store_end_fits mask d b m h k =
      let last : AllOps (exchange d b) ≡ true = both k (both h (both k refl)) in
      ops_both (and_mask mask 25) (exchange d b) (and_mask_fits mask 25 m (omega arith)) last

  three : (x y z : Bool) → (x && (y && z)) ≡ true → (x ≡ true) × (y ≡ true) × (z ≡ true)
  three x y z e =
      let p = and_parts x (y && z) e in
      let q = and_parts y z p.1 in
      (p.0, q.0, q.1)

  module _ (long : ℕ → ℕ) (lengths : (b : ℕ) → ltb b used ≡ true → long b ≤ 1024) where
    pub op_group_fits : (mask : Option ℕ) (p : ℕ) (op : Op) → MaskFits mask → p < 200 → bound_op 16 used op ≡ true → AllOps (op_group long mask p op) ≡ true
    op_group_fits mask p (Set d v) m q e = let b = and_parts (ltb d 16) (bound_value 16 used v) e in set_group_fits mask d v m (wide d b.0) (wide_value v b.1)
    op_group_fits mask p (Pick d a b) m q e = let x = three (ltb d 16) (ltb a 16) (ltb b 16) e in pick_group_fits mask d a b m (wide d x.0) (wide a x.1) (wide b x.2)
    op_group_fits mask p (Load d a b) m q e =
        let x = three (ltb d 16) (ltb a 16) (ltb b used) e in
        ops_both (guard mask (long b) p a) (load_end mask d b) (guard_fits mask (long b) p a m (lengths b x.2) q (wide a x.1)) (load_end_fits mask d b m (wide d x.0) x.2)
    op_group_fits mask p (Store d a b) m q e =
        let x = three (ltb d 16) (ltb a 16) (ltb b used) e in
        ops_both (guard mask (long b) p a) (store_end mask d b) (guard_fits mask (long b) p a m (lengths b x.2) q (wide a x.1)) (store_end_fits mask d b m (wide d x.0) x.2)

  pub if_group_fits : (mask : Option ℕ) (n a : ℕ) → MaskFits mask → n < 32 → ltb a 16 ≡ true → AllOps (if_group mask n a) ≡ true
  if_group_fits mask n a m h k =
      let first : AllOps (is_set n a) ≡ true = both (both (wide a k) refl) (both (both (reg n h) refl) refl) in
      ops_both (is_set n a) (and_mask mask n) first (and_mask_fits mask n m h)

  pub else_group_fits : (mask : Option ℕ) (n : ℕ) → MaskFits mask → n < 32 → AllOps (else_group mask n) ≡ true
  else_group_fits None n m h = both (both (reg n h) (both (reg n h) refl)) refl
  else_group_fits (Some r) n m h = both (both (reg n h) (both (reg n h) (reg r m))) refl
