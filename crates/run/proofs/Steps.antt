-- What one turn of the code does is one step of the machine.
use Rattle.std.proofs.Common.{◌≡◌, ℕ, zero, suc, pred, ◌+◌, ◌-◌, ◌<◌, ◌≤◌, min, Bool, true, false, cond, eqb, ltb, List, [], ◌∷◌, ◌++◌, map, length, drop, set, sym, refl, ap, ◌∙◌, subst, ⊎_elim, add-one, sub-one, arith, length-set}
use mathlib.Core.Path.{fun_ext}
use lib.Dec.{eqb-zero-suc, eqb-suc-zero, eqb-suc-suc}
use Rattle.std.proofs.lemmas.List.{append-nil, get_or-map}
use Rattle.std.proofs.lemmas.Bool.{cases_lt, lt-ltb, le-ltb}
use Rattle.instructions.specs.declared.Op.{Op}
use Rattle.instructions.specs.declared.Op.TheVariants.{Set, Pick, Load, Store}
use Rattle.instructions.specs.declared.Instruction.{Instruction}
use Rattle.instructions.specs.declared.Instruction.TheVariants.{Do, If, Else, End, Repeat, Again}
use Rattle.program.specs.declared.header.Table.{Table}
use Rattle.program.specs.Headers.{no_table, first_cell}
use Rattle.stack.specs.Items.{below}
use Rattle.memory.specs.declared.Access.{Access}
use Rattle.memory.specs.declared.Access.TheVariants.{Read, Write}
use Rattle.memory.specs.Description.{Description, marked, free}
use Rattle.memory.specs.Laws.{Lawful, Within}
use Rattle.machine.specs.declared.visit.Choice.{Choice}
use Rattle.machine.specs.declared.visit.Choice.TheVariants.{Onward, Inward, Past, Fault}
use Rattle.machine.specs.declared.repeat.OpenRepeat.{OpenRepeat}
use Rattle.machine.specs.Fits.{FitOp, Fit}
use Rattle.machine.specs.Words.{value_of}
use Rattle.machine.specs.States.{Event, visit, reads, writes, State, held, changed}
use Rattle.machine.specs.Machine.{if_not0, length_of, loads, stores, Conf, go, stop, open_at, lowered, land, begin, goes_on, back, test, step, next, count}
use Rattle.machine.specs.Most.{weigh}
use Rattle.execution.specs.Runs.{Able}
use Rattle.jumps.specs.Jumps.{Resolved}
use Rattle.counting.specs.Counting.{mark_price}
use Rattle.repeats.specs.declared.Move.{Move}
use Rattle.repeats.specs.Moves.{innermost, Goes}
use Rattle.memory.specs.declared.window.Window.{Window}
use Rattle.windows.specs.Windows.{window_of, Laid}
use Rattle.stepping.specs.Turns.{Loaded, Stored, Done, After, Turned, Allowed, ReadyOp, Ready}
use Rattle.run.specs.Run.{visit_at, visits_of, marks_of}

held-set : (l : List ℕ) (d v x : ℕ) → d < length l → held (set l d v) x ≡ changed (held l) d v x
held-set [] d v x h = absurd (omega arith)
held-set (a ∷ l) zero v zero h = refl
held-set (a ∷ l) zero v (suc x) h = rw (eqb-suc-zero x)
held-set (a ∷ l) (suc d) v zero h = rw (eqb-zero-suc d)
held-set (a ∷ l) (suc d) v (suc x) h = rw (eqb-suc-suc x d) (held-set l d v x (omega arith))

pub held-changed : (l : List ℕ) (d v : ℕ) → d < length l → held (set l d v) ≡ changed (held l) d v
held-changed l d v h = fun_ext (λ x. held-set l d v x h)

pick_cond : (n x y : ℕ) → if_not0 n x y ≡ cond (eqb n 0) y x
pick_cond zero x y = refl
pick_cond (suc n) x y = rw (eqb-suc-zero n)

abbrev pub state : List ℕ → List ℕ → List Event → State
state r cells t = record { registers = held r; cells = held cells; trace = t }

-- where a choice at p leads to, q where it is no fault
abbrev pub landing : Choice → ℕ → ℕ → List OpenRepeat → State → Conf
landing Onward p q fs s = go q fs s
landing Inward p q fs s = go q fs s
landing Past p q fs s = go q fs s
landing Fault p q fs s = stop p s

abbrev pub move : ℕ → Choice → Move
move q c = record { place = q; choice = c }

goes_move : (q : ℕ) (c : Choice) (m : Move) → Goes q c m → move q c ≡ m
goes_move q c m g = ap (λ x. move x c) (sym g.0) ∙ ap (λ x. move m.place x) (sym g.1)

after_done : (ok : Bool) (p : ℕ) (m : Move) → After ok p m → ok ≡ true → Goes (p + 1) Onward m
after_done ok p m a e = subst (λ b. After b p m) e a

after_fault : (ok : Bool) (p : ℕ) (m : Move) → After ok p m → ok ≡ false → Goes p Fault m
after_fault ok p m a e = subst (λ b. After b p m) e a

module _ (tables : List Table) (code : List Instruction) where
  pub record Stepped (p : ℕ) (fs : List OpenRepeat) (r : List ℕ) (d : Description) (t : List Event) (m : Move) (fs' : List OpenRepeat) (r' : List ℕ) (d' : Description) : Type 0 where
    pub trace : List Event
    pub new : List ℕ
    pub goes : next (tables) code (go p fs (state r d.cells t)) ≡ landing m.choice p m.place fs' (state r' d'.cells trace)
    pub rules : d'.rules ≡ d.rules
    pub size : length d'.cells ≡ length d.cells
    pub seen : d'.seen ≡ d.seen ++ new
    pub marks : marks_of tables d.rules.shows trace ≡ marks_of tables d.rules.shows t ++ new
    pub weighed : weigh (mark_price d.rules.cost tables) trace ≡ weigh (mark_price d.rules.cost tables) t + length new
    pub visits : visits_of trace ≡ visits_of t ++ (visit_at p m.choice ∷ [])
    pub counts : count trace ≡ suc (count t)
    pub long : length r' ≡ length r

  module _ (p : ℕ) (fs : List OpenRepeat) (r : List ℕ) (d : Description) (t : List Event) (i : Instruction) (is : List Instruction) (h : drop p code ≡ i ∷ is) where
    carry : (m : Move) (fs' : List OpenRepeat) (r' : List ℕ) (d' : Description) (q : ℕ) (c : Choice) (gs : List OpenRepeat) (s : List ℕ) (e : Description) → Goes q c m → fs' ≡ gs → r' ≡ s → d' ≡ e
        → Stepped p fs r d t (move q c) gs s e → Stepped p fs r d t m fs' r' d'
    carry m fs' r' d' q c gs s e g1 g2 g3 g4 z =
        subst (λ (x : Description). Stepped p fs r d t m fs' r' x) (sym g4)
        (subst (λ (x : List ℕ). Stepped p fs r d t m fs' x e) (sym g3)
        (subst (λ (x : List OpenRepeat). Stepped p fs r d t m x s e) (sym g2)
        (subst (λ (x : Move). Stepped p fs r d t x gs s e) (goes_move q c m g1) z)))

    -- a step that touches no cell
    quiet : (c : Choice) (q : ℕ) (gs : List OpenRepeat) (s : List ℕ) → step (tables) code (i ∷ is) p fs (state r d.cells t) ≡ landing c p q gs (state s d.cells (visit p c ∷ t)) → length s ≡ length r
        → Stepped p fs r d t (move q c) gs s d
    quiet c q gs s e l = record {
      trace = visit p c ∷ t;
      new = [];
      goes = ap (λ x. step (tables) code x p fs (state r d.cells t)) h ∙ e;
      rules = refl;
      size = refl;
      seen = sym (append-nil d.seen);
      marks = sym (append-nil (marks_of tables d.rules.shows t));
      weighed = omega arith;
      visits = refl;
      counts = refl;
      long = l;
    }

  -- an access that was accepted
  module _ (p : ℕ) (fs : List OpenRepeat) (r : List ℕ) (d : Description) (t : List Event) (is : List Instruction) (law : Lawful d) (eight : length tables ≡ 8) where
    paid : (k : Access) (b off : ℕ) → b < 8 → Within d (first_cell tables b) (length_of tables b) off → d.rules.cost k (length_of tables b) ≤ free d
        → held (map (λ (x : Table). d.rules.cost k x.length) tables) b ≡ length (d.rules.shows k (first_cell tables b) (length_of tables b) off)
    paid k b off l w c =
        let e = law.priced k (first_cell tables b) (length_of tables b) off w in
        let g : held (map (λ (x : Table). d.rules.cost k x.length) tables) b ≡ d.rules.cost k (length_of tables b) = get_or-map (λ (x : Table). d.rules.cost k x.length) tables b no_table 0 (omega arith) in
        let li = law.limited in
        omega arith

    loaded : (x a b : ℕ) → drop p code ≡ Do (Load x a b) ∷ is → x < length r → b < 8 → Within d (first_cell tables b) (length_of tables b) (held r a) → d.rules.cost Read (length_of tables b) ≤ free d
        → Stepped p fs r d t (move (p + 1) Onward) fs (set r x (held d.cells (first_cell tables b + held r a))) (marked d d.cells (d.rules.shows Read (first_cell tables b) (length_of tables b) (held r a)))
    loaded x a b h lx lb w c =
        let v = held d.cells (first_cell tables b + held r a) in
        let t' = reads p b (held r a) ∷ visit p Onward ∷ t in
        let e1 : ltb (held r a) (length_of tables b) ≡ true = lt-ltb (held r a) (length_of tables b) w.below in
        let F : (ℕ → ℕ) → ℕ → Conf = λ g q. go q fs (record { registers = g; cells = held d.cells; trace = t' }) in
        record {
          trace = t';
          new = d.rules.shows Read (first_cell tables b) (length_of tables b) (held r a);
          goes = ap (λ l. step (tables) code l p fs (state r d.cells t)) h
              ∙ (ap (λ z. land (loads z p x b (held r a) (first_cell tables b + held r a) (state r d.cells t)) (suc p) fs) e1
              ∙ (ap (λ g. F g (suc p)) (sym (held-changed r x v lx)) ∙ ap (F (held (set r x v))) (sym (add-one p))));
          rules = refl;
          size = refl;
          seen = refl;
          marks = refl;
          weighed = let z = paid Read b (held r a) lb w c in omega arith;
          visits = refl;
          counts = refl;
          long = length-set r x v;
        }

    stored : (x a b : ℕ) → drop p code ≡ Do (Store x a b) ∷ is → b < 8 → Within d (first_cell tables b) (length_of tables b) (held r a) → d.rules.cost Write (length_of tables b) ≤ free d
        → Stepped p fs r d t (move (p + 1) Onward) fs r (marked d (set d.cells (first_cell tables b + held r a) (held r x)) (d.rules.shows Write (first_cell tables b) (length_of tables b) (held r a)))
    stored x a b h lb w c =
        let k = first_cell tables b + held r a in
        let t' = writes p b (held r a) ∷ visit p Onward ∷ t in
        let e1 : ltb (held r a) (length_of tables b) ≡ true = lt-ltb (held r a) (length_of tables b) w.below in
        let F : (ℕ → ℕ) → ℕ → Conf = λ g q. go q fs (record { registers = held r; cells = g; trace = t' }) in
        record {
          trace = t';
          new = d.rules.shows Write (first_cell tables b) (length_of tables b) (held r a);
          goes = ap (λ l. step (tables) code l p fs (state r d.cells t)) h
              ∙ (ap (λ z. land (stores z p x b (held r a) (first_cell tables b + held r a) (state r d.cells t)) (suc p) fs) e1
              ∙ (ap (λ g. F g (suc p)) (sym (held-changed d.cells k (held r x) (omega (arith, w.below, w.fits)))) ∙ ap (F (held (set d.cells k (held r x)))) (sym (add-one p))));
          rules = refl;
          size = length-set d.cells k (held r x);
          seen = refl;
          marks = refl;
          weighed = let z = paid Write b (held r a) lb w c in omega arith;
          visits = refl;
          counts = refl;
          long = refl;
        }

  module _ (ws : List Window) (laid : Laid tables ws) (js : List ℕ) (res : Resolved code js) (eight : length tables ≡ 8) (p : ℕ) (fs : List OpenRepeat) (r : List ℕ) (d : Description) (t : List Event) (is : List Instruction) (law : Lawful d) (wide : length r ≡ 32) (m : Move) (fs' : List OpenRepeat) (r' : List ℕ) (d' : Description) where
    by_op : (o : Op) (ok : Bool) → drop p code ≡ Do o ∷ is → FitOp 32 8 o → ReadyOp ws r d o → Done ws r d ok r' d' o → After ok p m → fs' ≡ fs → Stepped p fs r d t m fs' r' d'
    by_op (Set x v) ok h f y g w e =
        let u = value_of v (held r) in
        let F : (ℕ → ℕ) → ℕ → Conf = λ k q. go q fs (record { registers = k; cells = held d.cells; trace = visit p Onward ∷ t }) in
        let lx : x < length r = (let q = f.0 in omega arith) in
        carry p fs r d t (Do (Set x v)) is h m fs' r' d' (p + 1) Onward fs (set r x u) d (after_done ok p m w g.0) e g.1 g.2
        (quiet p fs r d t (Do (Set x v)) is h Onward (p + 1) fs (set r x u) (ap (λ k. F k (suc p)) (sym (held-changed r x u lx)) ∙ ap (F (held (set r x u))) (sym (add-one p))) (length-set r x u))
    by_op (Pick x a b) ok h f y g w e =
        let u = cond (eqb (held r a) 0) (held r x) (held r b) in
        let F : (ℕ → ℕ) → ℕ → Conf = λ k q. go q fs (record { registers = k; cells = held d.cells; trace = visit p Onward ∷ t }) in
        let lx : x < length r = (let q = f.0 in omega arith) in
        carry p fs r d t (Do (Pick x a b)) is h m fs' r' d' (p + 1) Onward fs (set r x u) d (after_done ok p m w g.0) e g.1 g.2
        (quiet p fs r d t (Do (Pick x a b)) is h Onward (p + 1) fs (set r x u)
        (ap (λ n. F (changed (held r) x n) (suc p)) (pick_cond (held r a) (held r b) (held r x)) ∙ (ap (λ k. F k (suc p)) (sym (held-changed r x u lx)) ∙ ap (F (held (set r x u))) (sym (add-one p)))) (length-set r x u))
    by_op (Load x a b) ok h f y g w e =
        let l = laid b f.2 in
        let g' : Loaded r d ok r' d' x (held r a) (window_of tables b) = subst (Loaded r d ok r' d' x (held r a)) l g in
        let y' : Allowed d Read (held r a) (window_of tables b) = subst (Allowed d Read (held r a)) l y in
        ⊎_elim
        (λ (o : held r a < length_of tables b).
        let k = g'.0 o in
        let z = y' o in
        carry p fs r d t (Do (Load x a b)) is h m fs' r' d' (p + 1) Onward fs _ _ (after_done ok p m w k.0) e k.1 k.2
        (loaded p fs r d t is law eight x a b h (let q = f.0 in omega arith) f.2 z.0 z.1))
        (λ (o : length_of tables b ≤ held r a).
        let k = g'.1 o in
        let e1 : ltb (held r a) (length_of tables b) ≡ false = le-ltb (held r a) (length_of tables b) o in
        carry p fs r d t (Do (Load x a b)) is h m fs' r' d' p Fault fs r d (after_fault ok p m w k.0) e k.1 k.2
        (quiet p fs r d t (Do (Load x a b)) is h Fault p fs r (ap (λ z. land (loads z p x b (held r a) (first_cell tables b + held r a) (state r d.cells t)) (suc p) fs) e1) refl))
        (cases_lt (held r a) (length_of tables b))
    by_op (Store x a b) ok h f y g w e =
        let l = laid b f.2 in
        let g' : Stored d ok d' (held r x) (held r a) (window_of tables b) = subst (Stored d ok d' (held r x) (held r a)) l g.0 in
        let y' : Allowed d Write (held r a) (window_of tables b) = subst (Allowed d Write (held r a)) l y in
        ⊎_elim
        (λ (o : held r a < length_of tables b).
        let k = g'.0 o in
        let z = y' o in
        carry p fs r d t (Do (Store x a b)) is h m fs' r' d' (p + 1) Onward fs _ _ (after_done ok p m w k.0) e g.1 k.1
        (stored p fs r d t is law eight x a b h f.2 z.0 z.1))
        (λ (o : length_of tables b ≤ held r a).
        let k = g'.1 o in
        let e1 : ltb (held r a) (length_of tables b) ≡ false = le-ltb (held r a) (length_of tables b) o in
        carry p fs r d t (Do (Store x a b)) is h m fs' r' d' p Fault fs r d (after_fault ok p m w k.0) e g.1 k.1
        (quiet p fs r d t (Do (Store x a b)) is h Fault p fs r (ap (λ z. land (stores z p x b (held r a) (first_cell tables b + held r a) (state r d.cells t)) (suc p) fs) e1) refl))
        (cases_lt (held r a) (length_of tables b))

    by_if : (a n : ℕ) → held r a ≡ n → drop p code ≡ If a ∷ is → Turned ws js p fs r d m fs' r' d' (If a) → Stepped p fs r d t m fs' r' d'
    by_if a zero e h g =
        carry p fs r d t (If a) is h m fs' r' d' (held js p) Past fs r d (g.0 e) g.2 g.3 g.4
        (quiet p fs r d t (If a) is h Past (held js p) fs r
        (ap (λ n. test (tables) code n p is fs (state r d.cells t)) e ∙ ap (λ q. go q fs (state r d.cells (visit p Past ∷ t))) (sym (res p (If a) is h))) refl)
    by_if a (suc n) e h g =
        carry p fs r d t (If a) is h m fs' r' d' (p + 1) Inward fs r d (g.1 (omega arith)) g.2 g.3 g.4
        (quiet p fs r d t (If a) is h Inward (p + 1) fs r
        (ap (λ n. test (tables) code n p is fs (state r d.cells t)) e ∙ ap (λ q. go q fs (state r d.cells (visit p Inward ∷ t))) (sym (add-one p))) refl)

    by_repeat : (a k n : ℕ) → min (held r a) k ≡ n → drop p code ≡ Repeat a k ∷ is → Turned ws js p fs r d m fs' r' d' (Repeat a k) → Stepped p fs r d t m fs' r' d'
    by_repeat a k zero e h g =
        let z = g.0 e in
        carry p fs r d t (Repeat a k) is h m fs' r' d' (held js p) Past fs r d z.0 z.1 g.2 g.3
        (quiet p fs r d t (Repeat a k) is h Past (held js p) fs r
        (ap (λ n. begin n p is fs (state r d.cells t)) e ∙ ap (λ q. go q fs (state r d.cells (visit p Past ∷ t))) (sym (res p (Repeat a k) is h))) refl)
    by_repeat a k (suc n) e h g =
        let z = g.1 (omega arith) in
        let l : suc n ≡ min (held r a) k = omega arith in
        let G : ℕ → ℕ → Conf = λ q x. go q (open_at q x ∷ fs) (state r d.cells (visit p Inward ∷ t)) in
        carry p fs r d t (Repeat a k) is h m fs' r' d' (p + 1) Inward (open_at (p + 1) (min (held r a) k) ∷ fs) r d z.0 z.1 g.2 g.3
        (quiet p fs r d t (Repeat a k) is h Inward (p + 1) (open_at (p + 1) (min (held r a) k) ∷ fs) r
        (ap (λ n. begin n p is fs (state r d.cells t)) e ∙ (ap (G (suc p)) l ∙ ap (λ q. G q (min (held r a) k)) (sym (add-one p)))) refl)

    by_again : (f : OpenRepeat) (gs : List OpenRepeat) (n : ℕ) → fs ≡ f ∷ gs → pred f.left ≡ n → drop p code ≡ Again ∷ is → Turned ws js p fs r d m fs' r' d' Again → Stepped p fs r d t m fs' r' d'
    by_again f gs zero s e h g =
        let ef : (innermost fs).left ≡ f.left = ap (λ x. (innermost x).left) s in
        let e1 : f.left - 1 ≡ 0 = sub-one f.left ∙ e in
        let z = g.0 (omega arith) in
        carry p fs r d t Again is h m fs' r' d' (p + 1) Past gs r d z.0 (z.1 ∙ ap below s) g.2 g.3
        (quiet p fs r d t Again is h Past (p + 1) gs r
        (ap (λ x. back x p (state r d.cells t)) s ∙ (ap (λ n. goes_on n f.start gs p (state r d.cells t)) e ∙ ap (λ q. go q gs (state r d.cells (visit p Past ∷ t))) (sym (add-one p)))) refl)
    by_again f gs (suc n) s e h g =
        let ef : (innermost fs).left ≡ f.left = ap (λ x. (innermost x).left) s in
        let e1 : f.left - 1 ≡ suc n = sub-one f.left ∙ e in
        let z = g.1 (omega arith) in
        let zg : Goes f.start Inward m = (z.0.0 ∙ ap (λ x. (innermost x).start) s, z.0.1) in
        carry p fs r d t Again is h m fs' r' d' f.start Inward (lowered f ∷ gs) r d zg (z.1 ∙ ap (λ x. lowered (innermost x) ∷ below x) s) g.2 g.3
        (quiet p fs r d t Again is h Inward f.start (lowered f ∷ gs) r
        (ap (λ x. back x p (state r d.cells t)) s ∙ (ap (λ n. goes_on n f.start gs p (state r d.cells t)) e ∙ ap (λ x. go f.start (open_at f.start x ∷ gs) (state r d.cells (visit p Inward ∷ t))) (sym e1))) refl)

    open_one : (fs : List OpenRepeat) → Able (Again ∷ is) fs → (f : OpenRepeat) × (gs : List OpenRepeat) × (fs ≡ f ∷ gs)
    open_one [] a = elim a [ ]
    open_one (f ∷ gs) a = (f, gs, refl)

    pub turn_step : (i : Instruction) → drop p code ≡ i ∷ is → Fit 32 8 i → Ready ws fs r d i → Able (i ∷ is) fs → Turned ws js p fs r d m fs' r' d' i → Stepped p fs r d t m fs' r' d'
    turn_step (Do o) h f y a (ok, g, w, e) = by_op o ok h f y g w e
    turn_step (If x) h f y a g = by_if x (held r x) refl h g
    turn_step Else h f y a g =
        carry p fs r d t Else is h m fs' r' d' (held js p) Onward fs r d g.0 g.1 g.2 g.3
        (quiet p fs r d t Else is h Onward (held js p) fs r (ap (λ q. go q fs (state r d.cells (visit p Onward ∷ t))) (sym (res p Else is h))) refl)
    turn_step End h f y a g =
        carry p fs r d t End is h m fs' r' d' (p + 1) Onward fs r d g.0 g.1 g.2 g.3
        (quiet p fs r d t End is h Onward (p + 1) fs r (ap (λ q. go q fs (state r d.cells (visit p Onward ∷ t))) (sym (add-one p))) refl)
    turn_step (Repeat x k) h f y a g = by_repeat x k (min (held r x) k) refl h g
    turn_step Again h f y a g = let o = open_one fs a in by_again o.0 o.1 (pred o.0.left) o.2 refl h g
