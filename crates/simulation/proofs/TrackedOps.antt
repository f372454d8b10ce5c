-- The predicated machine follows each op.
use Rattle.std.proofs.Common.{◌≡◌, ℕ, zero, suc, ◌+◌, ◌<◌, ◌≤◌, Bool, true, false, ltb, List, refl, arith}
use Rattle.instructions.specs.declared.Op.{Op}
use Rattle.instructions.specs.declared.Op.TheVariants.{Set, Pick, Load, Store}
use Rattle.program.specs.declared.header.Table.{Table}
use Rattle.program.specs.Headers.{first_cell}
use Rattle.machine.specs.Fits.{FitOp}
use Rattle.machine.specs.States.{State}
use Rattle.machine.specs.Machine.{length_of, loads, stores, does}
use Rattle.simulation.proofs.Straight.{Words}
use Rattle.simulation.proofs.Predicated.{mask, first_bad, predicated_op}
use Rattle.simulation.proofs.Groups.{value_same}
use Rattle.simulation.proofs.Staying.{not_below, not_above}
use Rattle.simulation.proofs.Tracking.{Live, Tracks, Tracking}

module _ (tables : List Table) (used : ℕ) where
  bad_in : (m : ℕ) (z : Words) (a t : ℕ) → ltb (z.registers a) (length_of tables t) ≡ true → first_bad tables m z a t ≡ 0
  bad_in zero z a t h = simp h
  bad_in (suc n) z a t h = simp h

  bad_out : (m : ℕ) (z : Words) (a t : ℕ) → ltb (z.registers a) (length_of tables t) ≡ false → z.registers 24 ≡ 0 → mask m z ≡ 1 → first_bad tables m z a t ≡ 1
  bad_out zero z a t h g e = simp (h, g)
  bad_out (suc n) z a t h g e = simp (h, g, e)

  track_load : (s p d a t : ℕ) (x : State) (y : Words) → d < 16 → a < 16 → s ≤ 8 → Live s x y → (c : Bool) → ltb (x.registers a) (length_of tables t) ≡ c
      → Tracks s (loads c p d t (x.registers a) (first_cell tables t + x.registers a) x) (predicated_op tables s p (Load d a t) y)
  track_load zero p d a t x y hd ha hs h true e =
      let ra = h.low a ha in
      let ey : ltb (y.registers a) (length_of tables t) ≡ true = rw ra e in
      record {
        low = λ r l. simp (e, not_below r 24 (omega arith), ra, h.cells, h.low r l);
        mark = simp (not_above 24 d (omega arith), bad_in zero y a t ey) h.mark;
        cells = h.cells;
        on = refl;
      }
  track_load zero p d a t x y hd ha hs h false e =
      let ey : ltb (y.registers a) (length_of tables t) ≡ false = rw (h.low a ha) e in
      simp (not_above 24 d (omega arith), bad_out zero y a t ey h.mark refl)
  track_load (suc n) p d a t x y hd ha hs h true e =
      let ra = h.low a ha in
      let ey : ltb (y.registers a) (length_of tables t) ≡ true = rw ra e in
      record {
        low = λ r l. simp (e, not_below r 24 (omega arith), ra, h.cells, h.on, h.low r l);
        mark = simp (not_above 24 d (omega arith), bad_in (suc n) y a t ey) h.mark;
        cells = h.cells;
        on = simp (not_above (16 + n) d (omega arith), not_below (16 + n) 24 (omega arith)) h.on;
      }
  track_load (suc n) p d a t x y hd ha hs h false e =
      let ey : ltb (y.registers a) (length_of tables t) ≡ false = rw (h.low a ha) e in
      simp (not_above 24 d (omega arith), bad_out (suc n) y a t ey h.mark h.on)

  track_store : (s p d a t : ℕ) (x : State) (y : Words) → d < 16 → a < 16 → s ≤ 8 → Live s x y → (c : Bool) → ltb (x.registers a) (length_of tables t) ≡ c
      → Tracks s (stores c p d t (x.registers a) (first_cell tables t + x.registers a) x) (predicated_op tables s p (Store d a t) y)
  track_store zero p d a t x y hd ha hs h true e =
      let ra = h.low a ha in
      let rd = h.low d hd in
      let ey : ltb (y.registers a) (length_of tables t) ≡ true = rw ra e in
      record {
        low = λ r l. simp (not_below r 24 (omega arith), h.low r l);
        mark = simp (bad_in zero y a t ey) h.mark;
        cells = λ c. simp (e, ra, rd, h.cells);
        on = refl;
      }
  track_store zero p d a t x y hd ha hs h false e =
      let ey : ltb (y.registers a) (length_of tables t) ≡ false = rw (h.low a ha) e in
      simp (bad_out zero y a t ey h.mark refl)
  track_store (suc n) p d a t x y hd ha hs h true e =
      let ra = h.low a ha in
      let rd = h.low d hd in
      let ey : ltb (y.registers a) (length_of tables t) ≡ true = rw ra e in
      record {
        low = λ r l. simp (not_below r 24 (omega arith), h.low r l);
        mark = simp (bad_in (suc n) y a t ey) h.mark;
        cells = λ c. simp (e, ra, rd, h.on, h.cells);
        on = simp (not_below (16 + n) 24 (omega arith)) h.on;
      }
  track_store (suc n) p d a t x y hd ha hs h false e =
      let ey : ltb (y.registers a) (length_of tables t) ≡ false = rw (h.low a ha) e in
      simp (bad_out (suc n) y a t ey h.mark h.on)

  pub track_op : (s p : ℕ) (o : Op) → FitOp 16 used o → s ≤ 8 → Tracking s (does tables p o) (predicated_op tables s p o)
  track_op zero p (Set d v) w hs x y h =
      let e = value_same v y.registers x.registers w.1 h.low in
      record { low = λ r l. simp (e, h.low r l); mark = simp (not_above 24 d (omega arith)) h.mark; cells = h.cells; on = refl }
  track_op zero p (Pick d a b) w hs x y h = record {
    low = λ r l. simp (h.low a w.1, h.low b w.2, h.low d w.0, h.low r l);
    mark = simp (not_above 24 d (omega arith)) h.mark;
    cells = h.cells;
    on = refl;
  }
  track_op zero p (Load d a t) w hs x y h = track_load zero p d a t x y w.0 w.1 hs h (ltb (x.registers a) (length_of tables t)) refl
  track_op zero p (Store d a t) w hs x y h = track_store zero p d a t x y w.0 w.1 hs h (ltb (x.registers a) (length_of tables t)) refl
  track_op (suc n) p (Set d v) w hs x y h =
      let e = value_same v y.registers x.registers w.1 h.low in
      record {
        low = λ r l. simp (h.on, e, h.low r l);
        mark = simp (not_above 24 d (omega arith)) h.mark;
        cells = h.cells;
        on = simp (not_above (16 + n) d (omega arith)) h.on;
      }
  track_op (suc n) p (Pick d a b) w hs x y h = record {
    low = λ r l. simp (h.on, h.low a w.1, h.low b w.2, h.low d w.0, h.low r l);
    mark = simp (not_above 24 d (omega arith)) h.mark;
    cells = h.cells;
    on = simp (not_above (16 + n) d (omega arith)) h.on;
  }
  track_op (suc n) p (Load d a t) w hs x y h = track_load (suc n) p d a t x y w.0 w.1 hs h (ltb (x.registers a) (length_of tables t)) refl
  track_op (suc n) p (Store d a t) w hs x y h = track_store (suc n) p d a t x y w.0 w.1 hs h (ltb (x.registers a) (length_of tables t)) refl
