-- For every kind of label: a pass stays within every solution, one that changes nothing has reached the smallest, and
-- there is one smallest at most.
use Rattle.std.proofs.Common.{◌≡◌, ℕ, zero, suc, ◌+◌, Bool, true, false, cond, eqb, List, [], ◌∷◌, drop, sym, refl, ap, ◌∙◌, subst, arith}
use mathlib.Core.Path.{fun_ext}
use Rattle.std.proofs.lemmas.Bool.{eqb-true}
use Rattle.instructions.specs.declared.Value.{Value}
use Rattle.instructions.specs.declared.Value.TheVariants.{Const, Move, Binary, Shift}
use Rattle.instructions.specs.declared.Op.{Op}
use Rattle.instructions.specs.declared.Op.TheVariants.{Set, Pick, Load, Store}
use Rattle.instructions.specs.declared.Instruction.{Instruction}
use Rattle.instructions.specs.declared.Instruction.TheVariants.{Do, If, Else, End, Repeat, Again}
use Rattle.program.specs.declared.opening.Opening.{Opening}
use Rattle.program.specs.declared.opening.Opening.TheVariants.{Then, Otherwise, Loop}
use Rattle.program.specs.declared.opening.Marked.{Marked}
use Rattle.program.specs.Openings.{past, around}
use Rattle.program.proofs.Around.{around_next, around_none, drop_next}
use Rattle.brackets.specs.Labelled.{mark, marked_else, marked_end, marked_again}
use Rattle.labels.proofs.Orders.{same, further, equal, left, right, joined, upward}
use Rattle.labels.specs.Kinds.{LabelKind, Within, Lawful}
use Rattle.labels.specs.declared.way.Way.{Way}
use Rattle.labels.specs.Rules.{Each, else_ways, Sub, read_by, written, put, leaves, label_of, marked, mask_of, ways, Along, Keeps, Solves, Smallest}
use Rattle.labels.specs.Passes.{opens, raised, passed, along, flow, sweep, Rising}

eqb_self : (p : ℕ) → eqb p p ≡ true
eqb_self p = grind (arith)

less_else : (P : Way → Type 0) (o : Opening) (c e : Bool) (p : ℕ) → (c ≡ true → e ≡ true) → Each P (else_ways o e p) → Each P (else_ways o c p)
less_else P (Then q a) true true p f h = h
less_else P (Then q a) true false p f h = let z : ◌≡◌ {A = Bool} false true = f refl in let y : ◌≡◌ {A = ℕ} 0 1 = cc in absurd (omega arith)
less_else P (Then q a) false true p f h = (h.0, tt)
less_else P (Then q a) false false p f h = h
less_else P (Otherwise q a m) c e p f h = h
less_else P (Loop q) c e p f h = h

module _ {L : Type 0} (K : LabelKind L) (laws : Lawful K) where
  abbrev pub Le : (ℕ → ℕ → L) → (ℕ → ℕ → L) → Type 0
  Le S Z = (p : ℕ) → Sub K (S p) (Z p)

  le_trans : (S T U : ℕ → ℕ → L) → Le S T → Le T U → Le S U
  le_trans S T U f g p r = further K laws (S p r) (T p r) (U p r) (f p r) (g p r)

  pub le_same : (S Z : ℕ → ℕ → L) → Le S Z → Le Z S → S ≡ Z
  le_same S Z f g = fun_ext (λ p. fun_ext (λ r. equal K laws (S p r) (Z p r) (f p r) (g p r)))

  join_mono : (a b c d : L) → Within K a c → Within K b d → Within K (K.join a b) (K.join c d)
  join_mono a b c d f g = joined K laws a b (K.join c d) (further K laws a c (K.join c d) f (left K laws c d)) (further K laws b d (K.join c d) g (right K laws c d))

  up : (c : Bool) (a b : L) → Within K a (cond c (K.join a b) a)
  up true a b = left K laws a b
  up false a b = same K laws a

  raise_up : (S : ℕ → ℕ → L) (q : ℕ) (A : ℕ → L) → Le S (raised K S q A)
  raise_up S q A p r = up (eqb p q) (S p r) (A r)

  at_case : (S Z : ℕ → ℕ → L) (q : ℕ) (A : ℕ → L) → Le S Z → Sub K A (Z q) → (p r : ℕ) (c : Bool) → eqb p q ≡ c → Within K (cond c (K.join (S p r) (A r)) (S p r)) (Z p r)
  at_case S Z q A s a p r true e = joined K laws (S p r) (A r) (Z p r) (s p r) (subst (λ y. Within K (A r) (Z y r)) (sym (eqb-true p q e)) (a r))
  at_case S Z q A s a p r false e = s p r

  raise_below : (S Z : ℕ → ℕ → L) (q : ℕ) (A : ℕ → L) → Le S Z → Sub K A (Z q) → Le (raised K S q A) Z
  raise_below S Z q A s a p r = at_case S Z q A s a p r (eqb p q) refl

  raise_stable : (S : ℕ → ℕ → L) (q : ℕ) (A : ℕ → L) → Le (raised K S q A) S → Sub K A (S q)
  raise_stable S q A h r =
      further K laws (A r) (K.join (S q r) (A r)) (S q r) (right K laws (S q r) (A r)) (subst (λ c. Within K (cond c (K.join (S q r) (A r)) (S q r)) (S q r)) (eqb_self q) (h q r))

  along_up : (ws : List Way) (S : ℕ → ℕ → L) → Le S (along K ws S)
  along_up [] S = λ p r. same K laws (S p r)
  along_up (w ∷ ws) S = le_trans S (passed K w S) (along K ws (passed K w S)) (raise_up S w.to (S w.from)) (along_up ws (passed K w S))

  along_below : (ws : List Way) (S Z : ℕ → ℕ → L) → Le S Z → Each (Along K Z) ws → Le (along K ws S) Z
  along_below [] S Z s e = s
  along_below (w ∷ ws) S Z s e = along_below ws (passed K w S) Z (raise_below S Z w.to (S w.from) s (λ r. further K laws _ _ _ (s w.from r) (e.0 r))) e.1

  along_stable : (ws : List Way) (S : ℕ → ℕ → L) → Le (along K ws S) S → Each (Along K S) ws
  along_stable [] S h = tt
  along_stable (w ∷ ws) S h =
      let down : Le (passed K w S) S = le_trans (passed K w S) (along K ws (passed K w S)) S (along_up ws (passed K w S)) h in
      let e : passed K w S ≡ S = le_same (passed K w S) S down (raise_up S w.to (S w.from)) in
      (raise_stable S w.to (S w.from) down, along_stable ws S (subst (λ X. Le (along K ws X) S) e h))

  read_mono : (v : Value) (A B : ℕ → L) → Sub K A B → Within K (read_by K v A) (read_by K v B)
  read_mono (Const k) A B s = same K laws K.least
  read_mono (Move a) A B s = s a
  read_mono (Binary op a b) A B s = join_mono (A a) (A b) (B a) (B b) (s a) (s b)
  read_mono (Shift op a k) A B s = s a

  written_mono : (c e : Bool) (m n x x' y y' : L) → (c ≡ true → e ≡ true) → Within K m n → Within K x x' → Within K y y' → Within K (written K c m x y) (written K e n x' y')
  written_mono true true m n x x' y y' f g h k = join_mono m (K.join x y) n (K.join x' y') g (join_mono x y x' y' h k)
  written_mono true false m n x x' y y' f g h k = let z : ◌≡◌ {A = Bool} false true = f refl in let w : ◌≡◌ {A = ℕ} 0 1 = cc in absurd (omega arith)
  written_mono false true m n x x' y y' f g h k =
      further K laws y (K.join x' y') (K.join n (K.join x' y')) (further K laws y y' (K.join x' y') k (right K laws x' y')) (right K laws n (K.join x' y'))
  written_mono false false m n x x' y y' f g h k = k

  by : (c : Bool) (a b x y : L) → Within K a b → Within K x y → Within K (cond c x a) (cond c y b)
  by true a b x y h k = k
  by false a b x y h k = h

  put_mono : (A B : ℕ → L) (d : ℕ) (x y : L) → Sub K A B → Within K x y → Sub K (put K A d x) (put K B d y)
  put_mono A B d x y s h r = by (eqb r d) (A r) (B r) x y (s r) h

  target_mono : (m n : L) (A B : ℕ → L) (d : ℕ) (y z : L) → Within K m n → Sub K A B → Within K y z
      → Sub K (put K A d (written K (K.secret m) m (A d) y)) (put K B d (written K (K.secret n) n (B d) z))
  target_mono m n A B d y z g s h = put_mono A B d _ _ s (written_mono (K.secret m) (K.secret n) m n (A d) (B d) y z (upward K laws m n g) g (s d) h)

  -- the more arrives, and the more is masked, the more leaves
  pub leaves_mono : (tables : ℕ → L) (op : Op) (m n : L) (A B : ℕ → L) → Within K m n → Sub K A B → Sub K (leaves K tables m op A) (leaves K tables n op B)
  leaves_mono tables (Set d v) m n A B g s = target_mono m n A B d (read_by K v A) (read_by K v B) g s (read_mono v A B s)
  leaves_mono tables (Pick d a b) m n A B g s = target_mono m n A B d _ _ g s (join_mono _ _ _ _ (s d) (join_mono _ _ _ _ (s a) (s b)))
  leaves_mono tables (Load d a t) m n A B g s = target_mono m n A B d _ _ g s (join_mono _ _ _ _ (s a) (same K laws (tables t)))
  leaves_mono tables (Store a i t) m n A B g s = s

  -- the same openings, each label of the first within that of the second
  pub data Less : List (Marked L) → List (Marked L) → Type 0 where
    none : Less [] []
    more : (o : Opening) (c e : L) {ks js : List (Marked L)} → Within K c e → Less ks js → Less (mark o c ∷ ks) (mark o e ∷ js)

  pub less_mask : {ks js : List (Marked L)} → Less ks js → Within K (mask_of K ks) (mask_of K js)
  less_mask none = same K laws K.least
  less_mask (more o c e {ks} {js} f l) = join_mono c (mask_of K ks) e (mask_of K js) f (less_mask l)

  pub less_ways : (P : Way → Type 0) {ks js : List (Marked L)} (p : ℕ) (i : Instruction) → Less ks js → Each P (ways K js p i) → Each P (ways K ks p i)
  less_ways P p (Do op) l h = h
  less_ways P p (If a) l h = h
  less_ways P p Else none h = h
  less_ways P p Else (more o c e f l) h = less_else P o (K.secret c) (K.secret e) p (upward K laws c e f) h
  less_ways P p End none h = h
  less_ways P p End (more o c e f l) h = h
  less_ways P p (Repeat a k) l h = h
  less_ways P p Again none h = h
  less_ways P p Again (more o c e f l) h = h

  less_at_else : (o : Opening) (c e : L) (p : ℕ) {ks js : List (Marked L)} → Within K c e → Less ks js → Less (marked_else o c p ks) (marked_else o e p js)
  less_at_else (Then q a) c e p f l = more (Otherwise q a p) c e f l
  less_at_else (Otherwise q a m) c e p f l = more (Otherwise q a m) c e f l
  less_at_else (Loop q) c e p f l = more (Loop q) c e f l

  less_at_end : (o : Opening) (c e : L) {ks js : List (Marked L)} → Within K c e → Less ks js → Less (marked_end o c ks) (marked_end o e js)
  less_at_end (Then q a) c e f l = l
  less_at_end (Otherwise q a m) c e f l = l
  less_at_end (Loop q) c e f l = more (Loop q) c e f l

  less_at_again : (o : Opening) (c e : L) {ks js : List (Marked L)} → Within K c e → Less ks js → Less (marked_again o c ks) (marked_again o e js)
  less_at_again (Then q a) c e f l = more (Then q a) c e f l
  less_at_again (Otherwise q a m) c e f l = more (Otherwise q a m) c e f l
  less_at_again (Loop q) c e f l = l

  less_opens : (A B : ℕ → L) {ks js : List (Marked L)} (p : ℕ) (i : Instruction) → Sub K A B → Less ks js → Less (opens K A ks p i) (opens K B js p i)
  less_opens A B p (Do op) s l = l
  less_opens A B p (If a) s l = more (Then p a) (A a) (B a) (s a) l
  less_opens A B p Else s none = none
  less_opens A B p Else s (more o c e f l) = less_at_else o c e p f l
  less_opens A B p End s none = none
  less_opens A B p End s (more o c e f l) = less_at_end o c e f l
  less_opens A B p (Repeat a k) s l = more (Loop p) K.least K.least (same K laws K.least) l
  less_opens A B p Again s none = none
  less_opens A B p Again s (more o c e f l) = less_at_again o c e f l

  less_label : (S Z : ℕ → ℕ → L) → Le S Z → (o : Opening) → Within K (label_of K S o) (label_of K Z o)
  less_label S Z s (Then q a) = s q a
  less_label S Z s (Otherwise q a m) = s q a
  less_label S Z s (Loop q) = same K laws K.least

  pub less_marked : (S Z : ℕ → ℕ → L) → Le S Z → (os : List Opening) → Less (marked K S os) (marked K Z os)
  less_marked S Z s [] = none
  less_marked S Z s (o ∷ os) = more o (label_of K S o) (label_of K Z o) (less_label S Z s o) (less_marked S Z s os)

  -- what a pass has open is what is open, with the labels of S
  marked-opens : (S : ℕ → ℕ → L) (os : List Opening) (p : ℕ) (i : Instruction) → opens K (S p) (marked K S os) p i ≡ marked K S (past p i os)
  marked-opens S os p (Do op) = refl
  marked-opens S os p (If a) = refl
  marked-opens S [] p Else = refl
  marked-opens S (Then q a ∷ os) p Else = refl
  marked-opens S (Otherwise q a m ∷ os) p Else = refl
  marked-opens S (Loop q ∷ os) p Else = refl
  marked-opens S [] p End = refl
  marked-opens S (Then q a ∷ os) p End = refl
  marked-opens S (Otherwise q a m ∷ os) p End = refl
  marked-opens S (Loop q ∷ os) p End = refl
  marked-opens S os p (Repeat a k) = refl
  marked-opens S [] p Again = refl
  marked-opens S (Then q a ∷ os) p Again = refl
  marked-opens S (Otherwise q a m ∷ os) p Again = refl
  marked-opens S (Loop q ∷ os) p Again = refl

  marked_next : (S : ℕ → ℕ → L) (code : List Instruction) (p : ℕ) (i : Instruction) (is : List Instruction) → drop p code ≡ i ∷ is
      → opens K (S p) (marked K S (around code p)) p i ≡ marked K S (around code (suc p))
  marked_next S code p i is h = marked-opens S (around code p) p i ∙ ap (marked K S) (sym (around_next code p i is h))

  none_open : (S : ℕ → ℕ → L) (code : List Instruction) → [] ≡ marked K S (around code 0)
  none_open S code = ap (marked K S) (around_none code)

  module _ (tables : ℕ → L) where
    flow_up : (ks : List (Marked L)) (p : ℕ) (i : Instruction) (S : ℕ → ℕ → L) → Le S (flow K tables ks p i S)
    flow_up ks p (Do op) S = raise_up S (suc p) (leaves K tables (mask_of K ks) op (S p))
    flow_up ks p (If a) S = along_up (ways K ks p (If a)) S
    flow_up ks p Else S = along_up (ways K ks p Else) S
    flow_up ks p End S = along_up (ways K ks p End) S
    flow_up ks p (Repeat a k) S = along_up (ways K ks p (Repeat a k)) S
    flow_up ks p Again S = along_up (ways K ks p Again) S

    flow_below : {ks js : List (Marked L)} (p : ℕ) (i : Instruction) (S Z : ℕ → ℕ → L) → Less ks js → Le S Z → Keeps K tables Z js p i → Le (flow K tables ks p i S) Z
    flow_below {ks} {js} p (Do op) S Z l s k =
        raise_below S Z (suc p) (leaves K tables (mask_of K ks) op (S p)) s (λ r. further K laws _ _ _ (leaves_mono tables op (mask_of K ks) (mask_of K js) (S p) (Z p) (less_mask l) (s p) r) (k r))
    flow_below {ks} p (If a) S Z l s k = along_below (ways K ks p (If a)) S Z s (less_ways (Along K Z) p (If a) l k)
    flow_below {ks} p Else S Z l s k = along_below (ways K ks p Else) S Z s (less_ways (Along K Z) p Else l k)
    flow_below {ks} p End S Z l s k = along_below (ways K ks p End) S Z s (less_ways (Along K Z) p End l k)
    flow_below {ks} p (Repeat a n) S Z l s k = along_below (ways K ks p (Repeat a n)) S Z s (less_ways (Along K Z) p (Repeat a n) l k)
    flow_below {ks} p Again S Z l s k = along_below (ways K ks p Again) S Z s (less_ways (Along K Z) p Again l k)

    flow_stable : (ks : List (Marked L)) (p : ℕ) (i : Instruction) (S : ℕ → ℕ → L) → Le (flow K tables ks p i S) S → Keeps K tables S ks p i
    flow_stable ks p (Do op) S h = raise_stable S (suc p) (leaves K tables (mask_of K ks) op (S p)) h
    flow_stable ks p (If a) S h = along_stable (ways K ks p (If a)) S h
    flow_stable ks p Else S h = along_stable (ways K ks p Else) S h
    flow_stable ks p End S h = along_stable (ways K ks p End) S h
    flow_stable ks p (Repeat a k) S h = along_stable (ways K ks p (Repeat a k)) S h
    flow_stable ks p Again S h = along_stable (ways K ks p Again) S h

    pub sweep_up : (is : List Instruction) (ks : List (Marked L)) (p : ℕ) (S : ℕ → ℕ → L) → Le S (sweep K tables ks p is S)
    sweep_up [] ks p S = λ q r. same K laws (S q r)
    sweep_up (i ∷ is) ks p S = le_trans S (flow K tables ks p i S) _ (flow_up ks p i S) (sweep_up is (opens K (S p) ks p i) (suc p) (flow K tables ks p i S))

    module _ (entry : ℕ → L) (code : List Instruction) where
      sweep_below : (Z : ℕ → ℕ → L) → Solves K tables entry code Z → (is : List Instruction) (ks : List (Marked L)) (p : ℕ) (S : ℕ → ℕ → L) → drop p code ≡ is
          → Less ks (marked K Z (around code p)) → Le S Z → Le (sweep K tables ks p is S) Z
      sweep_below Z z [] ks p S h l s = s
      sweep_below Z z (i ∷ is) ks p S h l s =
          sweep_below Z z is (opens K (S p) ks p i) (suc p) (flow K tables ks p i S) (drop_next code p i is h)
          (subst (λ js. Less (opens K (S p) ks p i) js) (marked_next Z code p i is h) (less_opens (S p) (Z p) p i (s p) l))
          (flow_below p i S Z l s (z.rules p i is h))

      abbrev All : (ℕ → ℕ → L) → ℕ → List Instruction → Type 0
      All S p [] = Unit {0}
      All S p (i ∷ is) = Keeps K tables S (marked K S (around code p)) p i × All S (suc p) is

      sweep_stable : (is : List Instruction) (p : ℕ) (S : ℕ → ℕ → L) → drop p code ≡ is → Le (sweep K tables (marked K S (around code p)) p is S) S → All S p is
      sweep_stable [] p S h g = tt
      sweep_stable (i ∷ is) p S h g =
          let ks = marked K S (around code p) in
          let down : Le (flow K tables ks p i S) S = le_trans (flow K tables ks p i S) _ S (sweep_up is (opens K (S p) ks p i) (suc p) (flow K tables ks p i S)) g in
          let e : flow K tables ks p i S ≡ S = le_same (flow K tables ks p i S) S down (flow_up ks p i S) in
          let f = marked_next S code p i is h in
          (flow_stable ks p i S down, sweep_stable is (suc p) S (drop_next code p i is h) (subst (λ X. Le X S) (λ t. sweep K tables (f t) (suc p) is (e t)) g))

      all_at : (S : ℕ → ℕ → L) (is : List Instruction) (n p : ℕ) → All S n is → (i : Instruction) (js : List Instruction) → drop p is ≡ i ∷ js
          → Keeps K tables S (marked K S (around code (n + p))) (n + p) i
      all_at S [] n zero a i js h = let z : ◌≡◌ {A = ℕ} 0 1 = cc in absurd (omega arith)
      all_at S (j ∷ is) n zero a i js h =
          let e : j ≡ i = cc in
          let z : n ≡ n + 0 = omega arith in
          subst (λ m. Keeps K tables S (marked K S (around code m)) m i) z (subst (λ k. Keeps K tables S (marked K S (around code n)) n k) e a.0)
      all_at S [] n (suc p) a i js h = let z : ◌≡◌ {A = ℕ} 0 1 = cc in absurd (omega arith)
      all_at S (j ∷ is) n (suc p) a i js h =
          let z : suc n + p ≡ n + suc p = omega arith in
          subst (λ m. Keeps K tables S (marked K S (around code m)) m i) z (all_at S is (suc n) p a.1 i js h)

      less_none : (S : ℕ → ℕ → L) → Less [] (marked K S (around code 0))
      less_none S = subst (λ js. Less [] js) (none_open S code) none

      -- a pass rises, and stays within every solution
      pub rising : (S : ℕ → ℕ → L) → Rising K tables entry code S → Rising K tables entry code (sweep K tables [] 0 code S)
      rising S h = record {
        start = λ r. further K laws _ _ _ (h.start r) (sweep_up code [] 0 S 0 r);
        below = λ Z z. sweep_below Z z code [] 0 S refl (less_none Z) (h.below Z z);
      }

      -- where a pass changes nothing, the smallest solution is reached
      pub reached : (S : ℕ → ℕ → L) → Rising K tables entry code S → sweep K tables [] 0 code S ≡ S → Smallest K tables entry code S
      reached S h e =
          let le : Le (sweep K tables (marked K S (around code 0)) 0 code S) S =
          subst (λ ks. Le (sweep K tables ks 0 code S) S) (none_open S code) (subst (λ X. Le X S) (sym e) (λ p r. same K laws (S p r))) in
          let all = sweep_stable code 0 S refl le in
          record {
            solves = record {
              start = h.start;
              rules = λ p i is d. let z : 0 + p ≡ p = omega arith in subst (λ m. Keeps K tables S (marked K S (around code m)) m i) z (all_at S code 0 p all i is d);
            };
            least = h.below;
          }

      -- there is one smallest solution at most
      pub unique : (S Z : ℕ → ℕ → L) → Smallest K tables entry code S → Smallest K tables entry code Z → S ≡ Z
      unique S Z s z = le_same S Z (s.least Z z.solves) (z.least S s.solves)
