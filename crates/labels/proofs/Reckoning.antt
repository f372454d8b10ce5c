-- The numbers that are reckoned are the smallest sets.
use Rattle.std.proofs.Common.{◌≡◌, ℕ, zero, suc, ◌+◌, ◌*◌, ◌^◌, ◌<◌, ◌≤◌, Bool, true, false, cond, not, ◌||◌, eqb, List, [], ◌∷◌, length, get_or, drop, set, replicate, sym, refl, ap, ◌∙◌, subst, arith, length-set}
use lib.Bits.{bit_and, bit_or}
use Rattle.std.proofs.lemmas.Nat.{or_lt, xor_lt, and_le_l, pow_below}
use Rattle.std.proofs.lemmas.List.{length-replicate}
use Rattle.instructions.specs.declared.Op.{Op}
use Rattle.instructions.specs.declared.Op.TheVariants.{Set, Pick, Load, Store}
use Rattle.instructions.specs.declared.Instruction.{Instruction}
use Rattle.instructions.specs.declared.Instruction.TheVariants.{Do, If, Else, End, Repeat, Again}
use Rattle.program.specs.declared.opening.Marked.{Marked}
use Rattle.program.specs.Openings.{past, around}
use Rattle.program.specs.Bounds.{bound_op, bound}
use Rattle.program.proofs.Around.{around_next, around_none, drop_next, drop_at}
use Rattle.brackets.specs.Labelled.{unmarked}
use Rattle.labels.specs.Kinds.{secrecy}
use Rattle.labels.specs.declared.way.Way.{Way}
use Rattle.labels.specs.Rules.{put, leaves, mask_of, ways, Smallest}
use Rattle.labels.specs.Passes.{Ahead, raised, along, flow, opens, sweep, Rising}
use Rattle.labels.specs.Sets.{bits, sets, room, Grew}
use Rattle.labels.specs.Plans.{number_put, number_leaves, number_raised, numbers_along, numbers_flow, numbers_sweep, settled, labels_of}
use Rattle.labels.proofs.Bits.{bits_or, bits_in, bits_out}
use Rattle.labels.proofs.Targets.{Targets, within}
use Rattle.labels.proofs.Rows.{sets-raised, grew_raise, grew_none, grew_both}
use Rattle.labels.proofs.Plain.{plain}
use Rattle.labels.proofs.Solving.{rising, reached}
use Rattle.labels.proofs.Heights.{below}
use Rattle.labels.proofs.Passing.{unmarked-opens, ahead, rising_start}

with_bits : (x d : ℕ) (c : Bool) → bits (number_put x d c) ≡ put secrecy (bits x) d c
with_bits x d true = bits_in x d (2 ^ d) refl
with_bits x d false = bits_out x d (2 ^ d) refl

leaves-bits : (tables : ℕ → Bool) (m : Bool) (o : Op) (x : ℕ) → bits (number_leaves tables m o x) ≡ leaves secrecy tables m o (bits x)
leaves-bits tables m (Set d v) x = with_bits x d _
leaves-bits tables m (Pick d a b) x = with_bits x d _
leaves-bits tables m (Load d a b) x = with_bits x d _
leaves-bits tables m (Store d a b) x = refl

raise_sets : (l : List ℕ) (q x : ℕ) → q < length l → sets (number_raised l q x) ≡ raised secrecy (sets l) q (bits x)
raise_sets l q x h = sets-raised l q (bit_or (get_or l q 0) x) (bits x) h (bits_or (get_or l q 0) x)

along-sets : (ws : List Way) (l : List ℕ) → Targets (length l) ws → sets (numbers_along ws l) ≡ along secrecy ws (sets l)
along-sets [] l h = refl
along-sets (w ∷ ws) l h =
    let x = get_or l w.from 0 in
    along-sets ws (number_raised l w.to x) (subst (λ n. Targets n ws) (sym (length-set l w.to (bit_or (get_or l w.to 0) x))) h.1)
    ∙ ap (along secrecy ws) (raise_sets l w.to x h.0)

-- numbers of 16 bits
abbrev pub Small : List ℕ → Type 0
Small l = (k : ℕ) → get_or l k 0 < 65536

small_set : (l : List ℕ) (q v : ℕ) → v < 65536 → Small l → Small (set l q v)
small_set [] q v h s k = s k
small_set (x ∷ l) zero v h s zero = h
small_set (x ∷ l) zero v h s (suc k) = s (suc k)
small_set (x ∷ l) (suc q) v h s zero = s zero
small_set (x ∷ l) (suc q) v h s (suc k) = small_set l q v h (λ j. s (suc j)) k

-- what a step does to a list: as long, small, and changed only upwards
record Step (l m : List ℕ) : Type 0 where
  long : length m ≡ length l
  small : Small m
  flag : Bool
  grew : Grew flag l m

step_none : (l : List ℕ) → Small l → Step l l
step_none l s = record { long = refl; small = s; flag = false; grew = grew_none l }

step_both : (x y z : List ℕ) → Step x y → Step y z → Step x z
step_both x y z f g = record { long = g.long ∙ f.long; small = g.small; flag = f.flag || g.flag; grew = grew_both f.flag g.flag x y z f.grew g.grew }

step_raise : (l : List ℕ) (q x : ℕ) → q < length l → x < 65536 → Small l → Step l (number_raised l q x)
step_raise l q x h b s =
    let v : bit_or (get_or l q 0) x < 65536 = or_lt 16 (get_or l q 0) x (s q) b in
    record { long = length-set l q (bit_or (get_or l q 0) x); small = small_set l q (bit_or (get_or l q 0) x) v s; flag = not (eqb (bit_or (get_or l q 0) x) (get_or l q 0)); grew = grew_raise l q x _ h v refl }

step_along : (ws : List Way) (l : List ℕ) → Targets (length l) ws → Small l → Step l (numbers_along ws l)
step_along [] l h s = step_none l s
step_along (w ∷ ws) l h s =
    let x = get_or l w.from 0 in
    let f = step_raise l w.to x h.0 (s w.from) s in
    step_both l (number_raised l w.to x) _ f (step_along ws (number_raised l w.to x) (subst (λ n. Targets n ws) (sym f.long) h.1) f.small)

with_small : (x d : ℕ) (c : Bool) → x < 65536 → d < 16 → number_put x d c < 65536
with_small x d true h b = or_lt 16 x (2 ^ d) h (pow_below d 16 b)
with_small x d false h b = xor_lt 16 x (bit_and x (2 ^ d)) h (let e = and_le_l x (2 ^ d) in omega arith)

leaves_small : (used : ℕ) (tables : ℕ → Bool) (m : Bool) (o : Op) (x : ℕ) → bound_op 16 used o ≡ true → x < 65536 → number_leaves tables m o x < 65536
leaves_small used tables m (Set d v) x b h = with_small x d _ h (below d 16 _ b)
leaves_small used tables m (Pick d a e) x b h = with_small x d _ h (below d 16 _ b)
leaves_small used tables m (Load d a e) x b h = with_small x d _ h (below d 16 _ b)
leaves_small used tables m (Store d a e) x b h = h

module _ (tables : ℕ → Bool) where
  flow-sets : (ks : List (Marked Bool)) (p : ℕ) (i : Instruction) (l : List ℕ) → suc p < length l → Ahead p ks → sets (numbers_flow tables ks p i l) ≡ flow secrecy tables ks p i (sets l)
  flow-sets ks p (Do o) l h a = raise_sets l (suc p) (number_leaves tables (mask_of secrecy ks) o (get_or l p 0)) h ∙ ap (raised secrecy (sets l) (suc p)) (leaves-bits tables (mask_of secrecy ks) o (get_or l p 0))
  flow-sets ks p (If r) l h a = along-sets (ways secrecy ks p (If r)) l (within secrecy ks p (length l) (If r) h a)
  flow-sets ks p Else l h a = along-sets (ways secrecy ks p Else) l (within secrecy ks p (length l) Else h a)
  flow-sets ks p End l h a = along-sets (ways secrecy ks p End) l (within secrecy ks p (length l) End h a)
  flow-sets ks p (Repeat r k) l h a = along-sets (ways secrecy ks p (Repeat r k)) l (within secrecy ks p (length l) (Repeat r k) h a)
  flow-sets ks p Again l h a = along-sets (ways secrecy ks p Again) l (within secrecy ks p (length l) Again h a)

  flow_step : (used : ℕ) (ks : List (Marked Bool)) (p : ℕ) (i : Instruction) (l : List ℕ) → bound 16 used i ≡ true → suc p < length l → Ahead p ks → Small l → Step l (numbers_flow tables ks p i l)
  flow_step used ks p (Do o) l b h a s = step_raise l (suc p) (number_leaves tables (mask_of secrecy ks) o (get_or l p 0)) h (leaves_small used tables (mask_of secrecy ks) o (get_or l p 0) b (s p)) s
  flow_step used ks p (If r) l b h a s = step_along (ways secrecy ks p (If r)) l (within secrecy ks p (length l) (If r) h a) s
  flow_step used ks p Else l b h a s = step_along (ways secrecy ks p Else) l (within secrecy ks p (length l) Else h a) s
  flow_step used ks p End l b h a s = step_along (ways secrecy ks p End) l (within secrecy ks p (length l) End h a) s
  flow_step used ks p (Repeat r k) l b h a s = step_along (ways secrecy ks p (Repeat r k)) l (within secrecy ks p (length l) (Repeat r k) h a) s
  flow_step used ks p Again l b h a s = step_along (ways secrecy ks p Again) l (within secrecy ks p (length l) Again h a) s

module _ (used : ℕ) (tables : ℕ → Bool) (code : List Instruction) (bounds : (p : ℕ) → p < length code → bound 16 used (get_or code p Again) ≡ true) where
  record Swept (ks : List (Marked Bool)) (p : ℕ) (is : List Instruction) (l : List ℕ) : Type 0 where
    same : sets (numbers_sweep tables ks p is l) ≡ sweep secrecy tables ks p is (sets l)
    step : Step l (numbers_sweep tables ks p is l)

  swept : (is : List Instruction) (ks : List (Marked Bool)) (p : ℕ) (l : List ℕ) → drop p code ≡ is → unmarked ks ≡ around code p → length l ≡ length code + 1 → Small l → Swept ks p is l
  swept [] ks p l d w n s = record { same = refl; step = step_none l s }
  swept (i ∷ is) ks p l d w n s =
      let at = drop_at code p i is d in
      let h : suc p < length l = omega (arith, at.0) in
      let a = ahead code p ks w in
      let b : bound 16 used i ≡ true = ap (bound 16 used) (sym at.1) ∙ bounds p at.0 in
      let f = flow_step tables used ks p i l b h a s in
      let e = flow-sets tables ks p i l h a in
      let next = swept is (opens secrecy (sets l p) ks p i) (suc p) (numbers_flow tables ks p i l) (drop_next code p i is d)
      (unmarked-opens secrecy (sets l p) ks p i ∙ ap (past p i) w ∙ sym (around_next code p i is d)) (f.long ∙ n) f.small in
      record {
        same = next.same ∙ ap (sweep secrecy tables (opens secrecy (sets l p) ks p i) (suc p) is) e;
        step = step_both l (numbers_flow tables ks p i l) _ f next.step;
      }

  eqb_not : (a b : ℕ) → a < b → eqb a b ≡ false
  eqb_not a b h = grind (arith)

  eqb_same : (a : ℕ) → eqb a a ≡ true
  eqb_same a = grind (arith)

  module _ (entry : ℕ → Bool) where
    -- the smallest sets, in a list that has a number of 16 bits for each place
    pub record Reckoned (l : List ℕ) : Type 0 where
      pub smallest : Smallest secrecy tables entry code (sets l)
      pub long : length l ≡ length code + 1
      pub small : Small l

    abbrev Settles : ℕ → Type 0
    Settles k = (l : List ℕ) → room l < k → length l ≡ length code + 1 → Small l → Rising secrecy tables entry code (sets l) → Reckoned (settled tables code k l)

    by_flag : (k : ℕ) → Settles k → (l : List ℕ) → room l < suc k → length l ≡ length code + 1 → Small l → Rising secrecy tables entry code (sets l) → (s : Swept [] 0 code l) (c : Bool) → s.step.flag ≡ c
        → Reckoned (settled tables code (suc k) l)
    by_flag k ih l r n m g w true e =
        let next = numbers_sweep tables [] 0 code l in
        let less = w.step.grew.less e in
        subst (λ b. Reckoned (cond b l (settled tables code k next))) (sym (eqb_not (room next) (room l) less))
        (ih next (omega arith) (w.step.long ∙ n) w.step.small (subst (Rising secrecy tables entry code) (sym w.same) (rising secrecy plain tables entry code (sets l) g)))
    by_flag k ih l r n m g w false e =
        let next = numbers_sweep tables [] 0 code l in
        let same = w.step.grew.same e in
        subst (λ b. Reckoned (cond b l (settled tables code k next))) (sym (ap (λ x. eqb (room x) (room l)) same ∙ eqb_same (room l)))
        (record { smallest = reached secrecy plain tables entry code (sets l) g (sym w.same ∙ ap sets same); long = n; small = m })

    settles : (k : ℕ) → Settles k
    settles zero l r n s g = absurd (omega arith)
    settles (suc k) l r n s g = let w = swept code [] 0 l refl (around_none code) n s in by_flag k (settles k) l r n s g w w.step.flag refl

room_zeros : (n : ℕ) → room (replicate n 0) ≤ 65535 * n
room_zeros zero = omega arith
room_zeros (suc n) = let e = room_zeros n in omega arith

pub zeros : (n k : ℕ) → ◌≡◌ {A = ℕ} (get_or (replicate n 0) k 0) 0
zeros zero k = refl
zeros (suc n) zero = refl
zeros (suc n) (suc k) = zeros n k

small_start : (x n : ℕ) → x < 65536 → Small (x ∷ replicate n 0)
small_start x n h zero = h
small_start x n h (suc k) = let z = zeros n k in omega arith

others : (x n k : ℕ) → 0 < k → ◌≡◌ {A = ℕ} (get_or (x ∷ replicate n 0) k 0) 0
others x n zero h = absurd (omega arith)
others x n (suc k) h = zeros n k

-- the numbers that are reckoned are the smallest sets
pub reckoned : (used : ℕ) (tables : ℕ → Bool) (entry : ℕ) (code : List Instruction) → entry < 65536 → (b : (p : ℕ) → p < length code → bound 16 used (get_or code p Again) ≡ true)
    → Reckoned used tables code b (bits entry) (labels_of tables entry code)
unfolding labels_of
reckoned used tables entry code h b =
    let n = length code in
    let r = room_zeros (length code) in
    settles used tables code b (bits entry) (65536 * (length code + 1)) (entry ∷ replicate (length code) 0) (omega arith) (simp length-replicate (omega arith)) (small_start entry (length code) h)
    (rising_start tables entry code (entry ∷ replicate (length code) 0) refl (others entry (length code)))
