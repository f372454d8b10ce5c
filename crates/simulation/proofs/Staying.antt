-- What every block keeps on the predicated machine: the masks around it, and register 24 once it
-- marks a place; and behind a mask that is 0 everything else.
use Rattle.std.proofs.Common.{◌≡◌, ℕ, zero, suc, ◌+◌, ◌<◌, ◌≤◌, min, Bool, true, false, cond, eqb, List, refl, sym, ap, ◌∙◌, arith, ne_eqb, eq-eqb, eqb-true}
use Rattle.std.specs.Int.Bits.{and_zero_l, and_zero_r}
use Rattle.instructions.specs.declared.Op.{Op}
use Rattle.instructions.specs.declared.Op.TheVariants.{Set, Pick, Load, Store}
use Rattle.program.specs.declared.header.Table.{Table}
use Rattle.program.specs.Headers.{first_cell}
use Rattle.program.specs.Blocks.{Block, done, one, if_then, if_else, loop, depth, fin}
use Rattle.machine.specs.Fits.{FitOp}
use Rattle.machine.specs.Machine.{if_not0}
use Rattle.conversion.specs.Trees.{FitBlock}
use Rattle.simulation.proofs.Straight.{Words}
use Rattle.simulation.proofs.Predicated.{mask, opened, inverted, times, index, first_bad, predicated_op, predicated}

-- registers 0 to 15, register 24 and the cells are as before
pub record Quiet (x y : Words) : Type 0 where
  pub low : (r : ℕ) → r < 16 → y.registers r ≡ x.registers r
  pub mark : y.registers 24 ≡ x.registers 24
  pub cells : (c : ℕ) → y.cells c ≡ x.cells c

pub record Stays (s : ℕ) (x y : Words) : Type 0 where
  pub masks : (r : ℕ) → 16 ≤ r → r < 16 + s → y.registers r ≡ x.registers r
  pub held : (x.registers 24 ≡ 0 → ⊥) → y.registers 24 ≡ x.registers 24
  pub dead : mask s x ≡ 0 → Quiet x y

pub not_below : (x y : ℕ) → x < y → eqb x y ≡ false
not_below x y h = ne_eqb x y (λ e. omega arith)

pub not_above : (x y : ℕ) → y < x → eqb x y ≡ false
not_above x y h = ne_eqb x y (λ e. omega arith)

quiet_same : (x : Words) → Quiet x x
quiet_same x = record { low = λ r h. refl; mark = refl; cells = λ c. refl }

pub quiet_both : (x y z : Words) → Quiet x y → Quiet y z → Quiet x z
quiet_both x y z h g = record { low = λ r l. g.low r l ∙ h.low r l; mark = g.mark ∙ h.mark; cells = λ c. g.cells c ∙ h.cells c }

-- what is written over itself
same_there : (f : ℕ → ℕ) (r d : ℕ) (c : Bool) → eqb r d ≡ c → cond c (f d) (f r) ≡ f r
same_there f r d true e = ap f (sym (eqb-true r d e))
same_there f r d false e = refl

-- opening and turning a mask writes that register alone
pub opened_else : (s a : ℕ) (x : Words) (r : ℕ) → eqb r (16 + s) ≡ false → (opened s a x).registers r ≡ x.registers r
opened_else zero a x r h = simp h
opened_else (suc n) a x r h = simp h

pub inverted_else : (s : ℕ) (x : Words) (r : ℕ) → eqb r (16 + s) ≡ false → (inverted s x).registers r ≡ x.registers r
inverted_else zero x r h = simp h
inverted_else (suc n) x r h = simp h

opened_cells : (s a : ℕ) (x : Words) → (opened s a x).cells ≡ x.cells
opened_cells zero a x = refl
opened_cells (suc n) a x = refl

inverted_cells : (s : ℕ) (x : Words) → (inverted s x).cells ≡ x.cells
inverted_cells zero x = refl
inverted_cells (suc n) x = refl

pub opened_quiet : (s a : ℕ) (x : Words) → s < 8 → Quiet x (opened s a x)
opened_quiet s a x hs = record {
  low = λ r l. opened_else s a x r (not_below r (16 + s) (omega arith));
  mark = opened_else s a x 24 (not_above 24 (16 + s) (omega arith));
  cells = λ c. ap (λ f. f c) (opened_cells s a x);
}

pub inverted_quiet : (s : ℕ) (x : Words) → s < 8 → Quiet x (inverted s x)
inverted_quiet s x hs = record {
  low = λ r l. inverted_else s x r (not_below r (16 + s) (omega arith));
  mark = inverted_else s x 24 (not_above 24 (16 + s) (omega arith));
  cells = λ c. ap (λ f. f c) (inverted_cells s x);
}

-- behind a mask that is 0 both arms of an if are
opened_dead : (s a : ℕ) (x : Words) → mask s x ≡ 0 → (opened s a x).registers (16 + s) ≡ 0
opened_dead zero a x h = absurd (omega arith)
opened_dead (suc n) a x h = simp (h, eq-eqb (16 + suc n) (16 + suc n) refl, and_zero_r)

inverted_dead : (s : ℕ) (x : Words) → mask s x ≡ 0 → x.registers (16 + s) ≡ 0 → (inverted s x).registers (16 + s) ≡ 0
inverted_dead zero x h g = absurd (omega arith)
inverted_dead (suc n) x h g = simp (h, g, eq-eqb (16 + suc n) (16 + suc n) refl)

mask_kept : (s : ℕ) (x y : Words) → Stays s x y → mask s y ≡ mask s x
mask_kept zero x y h = refl
mask_kept (suc n) x y h = h.masks (16 + n) (omega arith) (omega arith)

stays_same : (s : ℕ) (x : Words) → Stays s x x
stays_same s x = record { masks = λ r h g. refl; held = λ e. refl; dead = λ e. quiet_same x }

stays_both : (s : ℕ) (x y z : Words) → Stays s x y → Stays s y z → Stays s x z
stays_both s x y z h g = record {
  masks = λ r l m. g.masks r l m ∙ h.masks r l m;
  held = λ n. let e = h.held n in g.held (λ k. n (sym e ∙ k)) ∙ e;
  dead = λ e. quiet_both x y z (h.dead e) (g.dead (mask_kept s x y h ∙ e));
}

stays_arm : (s a : ℕ) (x y : Words) → s < 8 → Stays (suc s) (opened s a x) y → Stays s x y
stays_arm s a x y hs h =
    let Q = opened_quiet s a x hs in
    record {
      masks = λ r l m. h.masks r l (omega arith) ∙ opened_else s a x r (not_below r (16 + s) m);
      held = λ n. h.held (λ k. n (sym Q.mark ∙ k)) ∙ Q.mark;
      dead = λ e. quiet_both x (opened s a x) y Q (h.dead (opened_dead s a x e));
    }

stays_arms : (s a : ℕ) (x y z : Words) → s < 8 → Stays (suc s) (opened s a x) y → Stays (suc s) (inverted s y) z → Stays s x z
stays_arms s a x y z hs h g =
    let h' = stays_arm s a x y hs h in
    let Q = inverted_quiet s y hs in
    stays_both s x y z h'
    (record {
      masks = λ r l m. g.masks r l (omega arith) ∙ inverted_else s y r (not_below r (16 + s) m);
      held = λ n. g.held (λ k. n (sym Q.mark ∙ k)) ∙ Q.mark;
      dead = λ e. quiet_both y (inverted s y) z Q (g.dead (inverted_dead s y e (h.masks (16 + s) (omega arith) (omega arith) ∙ opened_dead s a x (sym (mask_kept s x y h') ∙ e))));
    })

stays_either : (s n : ℕ) (x y z : Words) → Stays s x y → Stays s x z → Stays s x (if_not0 n y z)
stays_either s zero x y z h g = g
stays_either s (suc n) x y z h g = h

stays_times : (s m : ℕ) (f : Words → Words) → ((z : Words) → Stays s z (f z)) → (z : Words) → Stays s z (times m f z)
stays_times s zero f α z = stays_same s z
stays_times s (suc m) f α z = stays_both s z (f z) (times m f (f z)) (α z) (stays_times s m f α (f z))

module _ (tables : List Table) (used : ℕ) where
  -- no index is the first bad one after another, nor behind a mask that is 0
  bad_held : (m : ℕ) (z : Words) (a t : ℕ) → (z.registers 24 ≡ 0 → ⊥) → first_bad tables m z a t ≡ 0
  bad_held zero z a t h = simp (ne_eqb (z.registers 24) 0 h, and_zero_r)
  bad_held (suc n) z a t h = simp (ne_eqb (z.registers 24) 0 h, and_zero_r, and_zero_l)

  bad_dead : (n : ℕ) (z : Words) (a t : ℕ) → z.registers (16 + n) ≡ 0 → first_bad tables (suc n) z a t ≡ 0
  bad_dead n z a t h = simp (h, and_zero_r)

  -- an op writes its own register, and 24
  op_masks : (s p : ℕ) (o : Op) (z : Words) → FitOp 16 used o → s ≤ 8 → (r : ℕ) → 16 ≤ r → r < 16 + s → (predicated_op tables s p o z).registers r ≡ z.registers r
  op_masks zero p o z w hs r h g = absurd (omega arith)
  op_masks (suc n) p (Set d v) z w hs r h g = simp (not_above r d (omega arith))
  op_masks (suc n) p (Pick d a b) z w hs r h g = simp (not_above r d (omega arith))
  op_masks (suc n) p (Load d a t) z w hs r h g = simp (not_above r d (omega arith), not_below r 24 (omega arith))
  op_masks (suc n) p (Store d a t) z w hs r h g = simp (not_below r 24 (omega arith))

  op_held : (s p : ℕ) (o : Op) (z : Words) → FitOp 16 used o → (z.registers 24 ≡ 0 → ⊥) → (predicated_op tables s p o z).registers 24 ≡ z.registers 24
  op_held zero p (Set d v) z w h = simp (not_above 24 d (omega arith))
  op_held zero p (Pick d a b) z w h = simp (not_above 24 d (omega arith))
  op_held zero p (Load d a t) z w h = simp (not_above 24 d (omega arith), bad_held zero z a t h)
  op_held zero p (Store d a t) z w h = simp (bad_held zero z a t h)
  op_held (suc n) p (Set d v) z w h = simp (not_above 24 d (omega arith))
  op_held (suc n) p (Pick d a b) z w h = simp (not_above 24 d (omega arith))
  op_held (suc n) p (Load d a t) z w h = simp (not_above 24 d (omega arith), bad_held (suc n) z a t h)
  op_held (suc n) p (Store d a t) z w h = simp (bad_held (suc n) z a t h)

  op_dead : (n p : ℕ) (o : Op) (z : Words) → FitOp 16 used o → z.registers (16 + n) ≡ 0 → Quiet z (predicated_op tables (suc n) p o z)
  op_dead n p (Set d v) z w h = record {
    low = λ r l. simp h (same_there z.registers r d (eqb r d) refl);
    mark = simp (not_above 24 d (omega arith));
    cells = λ c. refl;
  }
  op_dead n p (Pick d a b) z w h = record {
    low = λ r l. simp h (same_there z.registers r d (eqb r d) refl);
    mark = simp (not_above 24 d (omega arith));
    cells = λ c. refl;
  }
  op_dead n p (Load d a t) z w h = record {
    low = λ r l. simp (h, not_below r 24 (omega arith)) (same_there z.registers r d (eqb r d) refl);
    mark = simp (not_above 24 d (omega arith), bad_dead n z a t h);
    cells = λ c. refl;
  }
  op_dead n p (Store d a t) z w h =
      let x = first_cell tables t + index tables z a t in
      record {
        low = λ r l. simp (not_below r 24 (omega arith));
        mark = simp (bad_dead n z a t h);
        cells = λ c. simp (h, and_zero_r) (same_there z.cells c x (eqb c x) refl);
      }

  op_stays : (s p : ℕ) (o : Op) (z : Words) → FitOp 16 used o → s ≤ 8 → Stays s z (predicated_op tables s p o z)
  op_stays zero p o z w hs = record { masks = op_masks zero p o z w hs; held = op_held zero p o z w; dead = λ e. absurd (omega arith) }
  op_stays (suc n) p o z w hs = record { masks = op_masks (suc n) p o z w hs; held = op_held (suc n) p o z w; dead = op_dead n p o z w }

  pub stays : (b : Block Bool) (s p : ℕ) → FitBlock 16 used b → s + depth b ≤ 8 → (z : Words) → Stays s z (predicated tables s b p z)
  stays done s p w d z = stays_same s z
  stays (one o b) s p w d z =
      let y = predicated_op tables s p o z in
      stays_both s z y _ (op_stays s p o z w.0 (omega arith)) (stays b s (suc p) w.1 d y)
  stays (if_then true a t b) s p w d z =
      let y = predicated tables (suc s) t (suc p) (opened s a z) in
      stays_both s z y _ (stays_arm s a z y (omega arith) (stays t (suc s) (suc p) w.1 (omega arith) (opened s a z))) (stays b s _ w.2 (omega arith) y)
  stays (if_then false a t b) s p w d z =
      let y = predicated tables s t (suc p) z in
      let x = if_not0 (z.registers a) y z in
      stays_both s z x _ (stays_either s (z.registers a) z y z (stays t s (suc p) w.1 (omega arith) z) (stays_same s z)) (stays b s _ w.2 (omega arith) x)
  stays (if_else true a t e b) s p w d z =
      let x = predicated tables (suc s) t (suc p) (opened s a z) in
      let y = predicated tables (suc s) e (suc (fin t (suc p))) (inverted s x) in
      stays_both s z y _
      (stays_arms s a z x y (omega arith) (stays t (suc s) (suc p) w.1 (omega arith) (opened s a z)) (stays e (suc s) _ w.2 (omega arith) (inverted s x)))
      (stays b s _ w.3 (omega arith) y)
  stays (if_else false a t e b) s p w d z =
      let x = predicated tables s t (suc p) z in
      let y = predicated tables s e (suc (fin t (suc p))) z in
      let v = if_not0 (z.registers a) x y in
      stays_both s z v _ (stays_either s (z.registers a) z x y (stays t s (suc p) w.1 (omega arith) z) (stays e s _ w.2 (omega arith) z)) (stays b s _ w.3 (omega arith) v)
  stays (loop a k t b) s p w d z =
      let y = times (min (z.registers a) k) (predicated tables s t (suc p)) z in
      stays_both s z y _ (stays_times s (min (z.registers a) k) _ (stays t s (suc p) w.1 (omega arith)) z) (stays b s _ w.2 (omega arith) y)
