-- Passes come to an end with every kind of label that has a bounded number of rises: a smallest solution exists.
use Rattle.std.proofs.Common.{◌≡◌, ℕ, zero, suc, ◌+◌, ◌*◌, ◌<◌, ◌≤◌, Bool, true, false, cond, ◌&&◌, eqb, ltb, List, [], ◌∷◌, length, get_or, drop, sym, refl, ap, ◌∙◌, subst, ⊎_elim, suc-mul, arith}
use mathlib.Core.Path.{fun_ext}
use Rattle.std.proofs.lemmas.Bool.{cases_lt, and_parts, eqb-true, ltb-true}
use Rattle.instructions.specs.declared.Op.{Op}
use Rattle.instructions.specs.declared.Op.TheVariants.{Set, Pick, Load, Store}
use Rattle.instructions.specs.declared.Instruction.{Instruction}
use Rattle.instructions.specs.declared.Instruction.TheVariants.{Do, If, Else, End, Repeat, Again}
use Rattle.program.specs.declared.opening.Marked.{Marked}
use Rattle.program.specs.Openings.{past, around}
use Rattle.program.specs.Bounds.{bound_op, bound}
use Rattle.program.proofs.Around.{around_next, around_none, drop_next, drop_at}
use Rattle.brackets.specs.Labelled.{unmarked}
use Rattle.labels.specs.Kinds.{LabelKind, Within, Lawful, Rises}
use Rattle.labels.specs.declared.way.Way.{Way}
use Rattle.labels.specs.Rules.{leaves, mask_of, ways, put, Smallest}
use Rattle.labels.specs.Passes.{Ahead, raised, passed, along, flow, opens, sweep, onset, passes, Rising}
use Rattle.labels.proofs.Solving.{Le, sweep_up, rising, reached}
use Rattle.labels.proofs.Targets.{Targets, within}
use Rattle.labels.proofs.Passing.{unmarked-opens, ahead, rising_from}

-- the numbers of 0 to n - 1, added up
abbrev sum : ℕ → (ℕ → ℕ) → ℕ
sum zero f = 0
sum (suc n) f = sum n f + f n

sum_le : (n : ℕ) (f g : ℕ → ℕ) → ((k : ℕ) → f k ≤ g k) → sum n f ≤ sum n g
sum_le zero f g h = omega arith
sum_le (suc n) f g h = let a = sum_le n f g h in let b = h n in omega arith

sum_same : (n : ℕ) (f g : ℕ → ℕ) → ((k : ℕ) → f k ≤ g k) → sum n g ≤ sum n f → (k : ℕ) → k < n → f k ≡ g k
sum_same zero f g h e k l = absurd (omega arith)
sum_same (suc n) f g h e k l =
    let a = sum_le n f g h in
    let b = h n in
    let top : f n ≡ g n = omega arith in
    let rest : sum n g ≤ sum n f = omega arith in
    ⊎_elim (λ (x : k < n). sum_same n f g h rest k x) (λ (x : n ≤ k). let z : n ≡ k = omega arith in subst (λ j. f j ≡ g j) z top) (cases_lt k n)

sum_most : (n c : ℕ) (f : ℕ → ℕ) → ((k : ℕ) → f k ≤ c) → sum n f ≤ n * c
sum_most zero c f h = omega arith
sum_most (suc n) c f h = let a = sum_most n c f h in let b = h n in let e = suc-mul n c in omega arith

eqb_far : (r d : ℕ) → d < r → eqb r d ≡ false
eqb_far r d h = grind (arith)

pub below : (d n : ℕ) (b : Bool) → (ltb d n && b) ≡ true → d < n
below d n b h = ltb-true d n (and_parts (ltb d n) b h).0

module _ {L : Type 0} (K : LabelKind L) (laws : Lawful K) (registers places : ℕ) where
  -- labels lie at places below a bound, on registers below a bound
  record Bounded (S : ℕ → ℕ → L) : Type 0 where
    far : (p r : ℕ) → places ≤ p → S p r ≡ K.least
    high : (p r : ℕ) → registers ≤ r → S p r ≡ K.least

  raise_far : (S : ℕ → ℕ → L) (q : ℕ) (A : ℕ → L) → q < places → Bounded S → (p r : ℕ) → places ≤ p → (c : Bool) → eqb p q ≡ c → cond c (K.join (S p r) (A r)) (S p r) ≡ K.least
  raise_far S q A h b p r g true e = let z = eqb-true p q e in absurd (omega arith)
  raise_far S q A h b p r g false e = b.far p r g

  raise_high : (S : ℕ → ℕ → L) (A : ℕ → L) → Bounded S → (p r : ℕ) → registers ≤ r → A r ≡ K.least → (c : Bool) → cond c (K.join (S p r) (A r)) (S p r) ≡ K.least
  raise_high S A b p r g a true = (λ t. K.join (b.high p r g t) (a t)) ∙ laws.lowest K.least
  raise_high S A b p r g a false = b.high p r g

  bounded_raise : (S : ℕ → ℕ → L) (q : ℕ) (A : ℕ → L) → q < places → ((r : ℕ) → registers ≤ r → A r ≡ K.least) → Bounded S → Bounded (raised K S q A)
  bounded_raise S q A h a b = record { far = λ p r g. raise_far S q A h b p r g (eqb p q) refl; high = λ p r g. raise_high S A b p r g (a r g) (eqb p q) }

  bounded_along : (ws : List Way) (S : ℕ → ℕ → L) → Targets places ws → Bounded S → Bounded (along K ws S)
  bounded_along [] S t b = b
  bounded_along (w ∷ ws) S t b = bounded_along ws (passed K w S) t.1 (bounded_raise S w.to (S w.from) t.0 (b.high w.from) b)

  put_high : (A : ℕ → L) (d : ℕ) (l : L) (r : ℕ) → d < registers → registers ≤ r → A r ≡ K.least → put K A d l r ≡ K.least
  put_high A d l r h g a = ap (λ c. cond c l (A r)) (eqb_far r d (omega arith)) ∙ a

  module _ (used : ℕ) (tables : ℕ → L) where
    leaves_high : (m : L) (op : Op) (A : ℕ → L) → bound_op registers used op ≡ true → ((r : ℕ) → registers ≤ r → A r ≡ K.least) → (r : ℕ) → registers ≤ r → leaves K tables m op A r ≡ K.least
    leaves_high m (Set d v) A b a r g = put_high A d _ r (below d registers _ b) g (a r g)
    leaves_high m (Pick d x y) A b a r g = put_high A d _ r (below d registers _ b) g (a r g)
    leaves_high m (Load d x t) A b a r g = put_high A d _ r (below d registers _ b) g (a r g)
    leaves_high m (Store x i t) A b a r g = a r g

    bounded_flow : (ks : List (Marked L)) (p : ℕ) (i : Instruction) (S : ℕ → ℕ → L) → bound registers used i ≡ true → suc p < places → Ahead p ks → Bounded S → Bounded (flow K tables ks p i S)
    bounded_flow ks p (Do op) S e h a b = bounded_raise S (suc p) _ h (leaves_high (mask_of K ks) op (S p) e (b.high p)) b
    bounded_flow ks p (If r) S e h a b = bounded_along (ways K ks p (If r)) S (within K ks p places (If r) h a) b
    bounded_flow ks p Else S e h a b = bounded_along (ways K ks p Else) S (within K ks p places Else h a) b
    bounded_flow ks p End S e h a b = bounded_along (ways K ks p End) S (within K ks p places End h a) b
    bounded_flow ks p (Repeat r k) S e h a b = bounded_along (ways K ks p (Repeat r k)) S (within K ks p places (Repeat r k) h a) b
    bounded_flow ks p Again S e h a b = bounded_along (ways K ks p Again) S (within K ks p places Again h a) b

    module _ (code : List Instruction) (long : places ≡ length code + 1) (bounds : (p : ℕ) → p < length code → bound registers used (get_or code p Again) ≡ true) where
      bounded_sweep : (is : List Instruction) (ks : List (Marked L)) (p : ℕ) (S : ℕ → ℕ → L) → drop p code ≡ is → unmarked ks ≡ around code p → Bounded S → Bounded (sweep K tables ks p is S)
      bounded_sweep [] ks p S d w b = b
      bounded_sweep (i ∷ is) ks p S d w b =
          let at = drop_at code p i is d in
          bounded_sweep is (opens K (S p) ks p i) (suc p) (flow K tables ks p i S) (drop_next code p i is d)
          (unmarked-opens K (S p) ks p i ∙ ap (past p i) w ∙ sym (around_next code p i is d))
          (bounded_flow ks p i S (ap (bound registers used) (sym at.1) ∙ bounds p at.0) (omega (arith, at.0)) (ahead code p ks w) b)

      bounded_pass : (S : ℕ → ℕ → L) → Bounded S → Bounded (sweep K tables [] 0 code S)
      bounded_pass S b = bounded_sweep code [] 0 S refl (around_none code) b

      module _ (most : ℕ) (rises : Rises K most) where
        higher : (a b : L) → Within K a b → rises.height a ≤ rises.height b
        higher a b w = subst (λ x. rises.height a ≤ rises.height x) w (rises.ordered a b)

        level : (a b : L) → Within K a b → rises.height a ≡ rises.height b → b ≡ a
        level a b w e = sym w ∙ rises.strict a b (e ∙ ap rises.height (sym w))

        -- the heights of all labels, added up
        abbrev row : (ℕ → ℕ → L) → ℕ → ℕ
        row S p = sum registers (λ r. rises.height (S p r))

        abbrev total : (ℕ → ℕ → L) → ℕ
        total S = sum places (row S)

        row_le : (S Z : ℕ → ℕ → L) → Le K laws S Z → (p : ℕ) → row S p ≤ row Z p
        row_le S Z le p = sum_le registers _ _ (λ r. higher (S p r) (Z p r) (le p r))

        total-most : (S : ℕ → ℕ → L) → total S ≤ places * (registers * most)
        total-most S = sum_most places (registers * most) (row S) (λ p. sum_most registers most _ (λ r. rises.bounded (S p r)))

        module _ (S Z : ℕ → ℕ → L) (le : Le K laws S Z) (b : Bounded S) (c : Bounded Z) (even : total Z ≤ total S) where
          inside : (p r : ℕ) → p < places → r < registers → Z p r ≡ S p r
          inside p r h g =
              let e : row S p ≡ row Z p = sum_same places (row S) (row Z) (row_le S Z le) even p h in
              level (S p r) (Z p r) (le p r) (sum_same registers _ _ (λ x. higher (S p x) (Z p x) (le p x)) (omega (arith, e)) r g)

          same_labels : Z ≡ S
          same_labels = fun_ext (λ p. fun_ext (λ r.
              ⊎_elim
              (λ (h : p < places). ⊎_elim (λ (g : r < registers). inside p r h g) (λ (g : registers ≤ r). c.high p r g ∙ sym (b.high p r g)) (cases_lt r registers))
              (λ (h : places ≤ p). c.far p r h ∙ sym (b.far p r h))
              (cases_lt p places)))

        stays : (S : ℕ → ℕ → L) (k : ℕ) → sweep K tables [] 0 code S ≡ S → passes K tables code k S ≡ S
        stays S zero e = refl
        stays S (suc k) e = ap (passes K tables code k) e ∙ stays S k e

        module _ (entry : ℕ → L) where
          settled_at : (k : ℕ) (S : ℕ → ℕ → L) → Rising K tables entry code S → Bounded S → total (sweep K tables [] 0 code S) ≤ total S → Smallest K tables entry code (passes K tables code k S)
          settled_at k S g b e =
              let same = same_labels S (sweep K tables [] 0 code S) (sweep_up K laws tables code [] 0 S) b (bounded_pass S b) e in
              subst (Smallest K tables entry code) (sym (stays S k same)) (reached K laws tables entry code S g same)

          ends : (k : ℕ) (S : ℕ → ℕ → L) → Rising K tables entry code S → Bounded S → places * (registers * most) ≤ total S + k → Smallest K tables entry code (passes K tables code k S)
          ends zero S g b e = settled_at zero S g b (let t = total-most (sweep K tables [] 0 code S) in omega arith)
          ends (suc k) S g b e =
              let next = sweep K tables [] 0 code S in
              ⊎_elim
              (λ (l : total S < total next). ends k next (rising K laws tables entry code S g) (bounded_pass S b) (omega arith))
              (λ (l : total next ≤ total S). settled_at (suc k) S g b l)
              (cases_lt (total S) (total next))

          module _ (narrow : (r : ℕ) → registers ≤ r → entry r ≡ K.least) where
            onset_far : (p r : ℕ) → places ≤ p → onset K entry p r ≡ K.least
            onset_far zero r h = absurd (omega arith)
            onset_far (suc p) r h = refl

            onset_high : (p r : ℕ) → registers ≤ r → onset K entry p r ≡ K.least
            onset_high zero r h = narrow r h
            onset_high (suc p) r h = refl

            onset_others : (p : ℕ) → 0 < p → onset K entry p ≡ (λ r. K.least)
            onset_others zero h = absurd (omega arith)
            onset_others (suc p) h = refl

            pub smallest_of_kind : Smallest K tables entry code (passes K tables code (places * (registers * most)) (onset K entry))
            smallest_of_kind =
                ends (places * (registers * most)) (onset K entry) (rising_from K laws tables entry code (onset K entry) refl onset_others) (record { far = onset_far; high = onset_high }) (omega arith)
