-- What the loop of a run keeps.
use Rattle.std.proofs.Common.{◌≡◌, ℕ, suc, ◌+◌, ◌-◌, ◌<◌, ◌≤◌, true, false, ltb, leb, List, [], ◌∷◌, ◌++◌, map, length, get_or, drop, set, None, Option, sym, refl, ap, ◌∙◌, subst, add-one, arith, length-append}
use Rattle.std.proofs.lemmas.List.{append-nil, append_assoc, get_or-map, drop_more, set_at, length_push}
use Rattle.std.proofs.lemmas.Bool.{lt-ltb, leb-true, leb-false}
use Rattle.instructions.specs.declared.Op.{Op}
use Rattle.instructions.specs.declared.Op.TheVariants.{Set, Pick, Load, Store}
use Rattle.instructions.specs.declared.Instruction.{Instruction}
use Rattle.instructions.specs.declared.Instruction.TheVariants.{Do, If, Else, End, Repeat, Again}
use Rattle.program.specs.declared.header.Table.{Table}
use Rattle.program.specs.declared.program.Program.{Program}
use Rattle.program.specs.Headers.{no_table, first_cell}
use Rattle.program.specs.Blocks.{Nested}
use Rattle.program.specs.Pairing.{pairing}
use Rattle.brackets.proofs.Nesting.{tree}
use Rattle.memory.specs.declared.Access.{Access}
use Rattle.memory.specs.declared.Access.TheVariants.{Read, Write}
use Rattle.memory.specs.Description.{Description, Rules, free}
use Rattle.memory.specs.Laws.{Lawful}
use Rattle.machine.specs.declared.visit.Choice.TheVariants.{Onward, Inward, Past, Fault}
use Rattle.machine.specs.declared.repeat.OpenRepeat.{OpenRepeat}
use Rattle.machine.specs.declared.visit.Visit.{Visit}
use Rattle.machine.specs.declared.visit.Choice.{Choice}
use Rattle.machine.specs.Fits.{FitOp, Fit}
use Rattle.program.specs.Programs.{code_of}
use Rattle.machine.proofs.Programs.{code_long}
use Rattle.machine.specs.States.{Event, visit, reads, writes, State, held}
use Rattle.machine.specs.Machine.{length_of, loads, stores, Conf, go, stop, state_of, land, step, next, steps, first, start, count}
use Rattle.machine.specs.Most.{each_step, weigh, most_of}
use Rattle.execution.specs.Runs.{Able}
use Rattle.execution.proofs.Counted.{counted}
use Rattle.execution.proofs.Onward.{steps_more, onward, finished, weighs, comes, over_at_end}
use Rattle.counting.specs.Counting.{mark_price, most_steps, most_marks}
use Rattle.counting.proofs.Sums.{sums_is}
use Rattle.repeats.specs.declared.Move.{Move}
use Rattle.memory.specs.declared.window.Window.{Window}
use Rattle.windows.specs.Windows.{no_window, Laid}
use Rattle.windows.proofs.Laying.{within_all}
use Rattle.stepping.specs.Turns.{Allowed, ReadyOp, Ready}
use Rattle.run.specs.Run.{visit_at, outcome_of, visits_of, marks_of, fault_of, finish, Runnable, Ended, ReadNested}
use Rattle.run.proofs.Steps.{state, landing, Stepped}

count_visits : (t : List Event) → length (visits_of t) ≡ count t
count_visits [] = refl
count_visits (visit p c ∷ t) = length_push (visits_of t) (visit_at p c) ∙ (add-one (length (visits_of t)) ∙ ap suc (count_visits t))
count_visits (reads p b i ∷ t) = count_visits t
count_visits (writes p b i ∷ t) = count_visits t

-- a choice that is no fault goes on
goes_on : (c : Choice) (p q : ℕ) (fs : List OpenRepeat) (s : State) → (c ≡ Fault → ⊥) → landing c p q fs s ≡ go q fs s
goes_on Onward p q fs s n = refl
goes_on Inward p q fs s n = refl
goes_on Past p q fs s n = refl
goes_on Fault p q fs s n = absurd (n refl)

-- one visit more
put_visit : (A vs : List Visit) (n : ℕ) (v : Visit) → length A ≡ n → n < length vs → set (A ++ drop n vs) n v ≡ (A ++ (v ∷ [])) ++ drop (n + 1) vs
put_visit A vs n v e h =
    let z : Visit = visit_at 0 Onward in
    ap (λ l. set (A ++ l) n v) (drop_more vs n z h) ∙ (set_at A (get_or vs n z) (drop (n + 1) vs) v n e ∙ sym (append_assoc A (v ∷ []) (drop (n + 1) vs)))

module _ (tables : List Table) (code : List Instruction) (entry : List ℕ) (d0 : Description) (vs0 : List Visit) where
  -- the trace so far, as the memory and the visits show it
  pub record Kept (made : ℕ) (d : Description) (vs : List Visit) (trace : List Event) : Type 0 where
    pub rules : d.rules ≡ d0.rules
    pub size : length d.cells ≡ length d0.cells
    pub seen : d.seen ≡ d0.seen ++ marks_of tables d0.rules.shows trace
    pub weighed : length (marks_of tables d0.rules.shows trace) ≡ weigh (mark_price d0.rules.cost tables) trace
    pub counts : count trace ≡ made
    pub visits : vs ≡ visits_of trace ++ drop made vs0

  -- the machine after so many steps is at what the code holds
  pub record At (made p : ℕ) (fs : List OpenRepeat) (r : List ℕ) (d : Description) (vs : List Visit) : Type 0 where
    pub trace : List Event
    pub conf : steps tables code made (start entry d0.cells) ≡ go p fs (state r d.cells trace)
    pub kept : Kept made d vs trace
    pub wide : length r ≡ 32

steps_left : (tables : List Table) (code : List Instruction) (d0 : Description) (n : ℕ) (t : Nested code) → Runnable tables code d0 n → most_of each_step t.0 ≤ most_steps code
steps_left tables code d0 n t al = let e = sums_is each_step t.0 code t.1 in let h = al.short in omega arith

marks_left : (tables : List Table) (code : List Instruction) (d0 : Description) (n : ℕ) (t : Nested code) → Lawful d0 → Runnable tables code d0 n
    → (most_of (mark_price d0.rules.cost tables) t.0 ≤ free d0) × (most_of (mark_price d0.rules.cost tables) t.0 ≤ most_marks d0.rules.cost tables code)
marks_left tables code d0 n t law al =
    let e = sums_is (mark_price d0.rules.cost tables) t.0 code t.1 in
    let h = al.marks in
    let l = law.limited in
    (omega arith, omega arith)

module _ {tables : List Table} {code : List Instruction} {entry : List ℕ} {d0 : Description} {vs0 : List Visit} where
  pub at_start : (fs : List OpenRepeat) (r : List ℕ) → fs ≡ [] → held r ≡ held entry → length r ≡ 32 → At tables code entry d0 vs0 0 0 fs r d0 vs0
  at_start fs r e h l =
      let F : List OpenRepeat → (ℕ → ℕ) → Conf = λ x g. go 0 x (record { registers = g; cells = held d0.cells; trace = [] }) in
      record {
        trace = [];
        conf = ap (F []) (sym h) ∙ ap (λ x. F x (held r)) (sym e);
        kept = record { rules = refl; size = refl; seen = sym (append-nil d0.seen); weighed = refl; counts = refl; visits = refl };
        wide = l;
      }

  pub kept_more : {made p : ℕ} {fs : List OpenRepeat} {r : List ℕ} {d : Description} {vs : List Visit} {t : List Event} {m : Move} {fs' : List OpenRepeat} {r' : List ℕ} {d' : Description}
      → made < length vs0 → Kept tables code entry d0 vs0 made d vs t → (s : Stepped tables code p fs r d t m fs' r' d') → Kept tables code entry d0 vs0 (made + 1) d' (set vs made (visit_at p m.choice)) s.trace
  kept_more {made = made} {p = p} {vs = vs} {t = t} {m = m} h k s =
      let P : Rules → Type 0 = λ u. marks_of tables u.shows s.trace ≡ marks_of tables u.shows t ++ s.new in
      let Q : Rules → Type 0 = λ u. weigh (mark_price u.cost tables) s.trace ≡ weigh (mark_price u.cost tables) t + length s.new in
      let em : P d0.rules = subst P k.rules s.marks in
      let ew : Q d0.rules = subst Q k.rules s.weighed in
      let ml = marks_of tables d0.rules.shows t in
      let v : Visit = visit_at p m.choice in
      record {
        rules = s.rules ∙ k.rules;
        size = s.size ∙ k.size;
        seen = s.seen ∙ (ap (λ l. l ++ s.new) k.seen ∙ (append_assoc d0.seen ml s.new ∙ ap (λ l. d0.seen ++ l) (sym em)));
        weighed = ap length em ∙ (length-append ml s.new ∙ (ap (λ n. n + length s.new) k.weighed ∙ sym ew));
        counts = s.counts ∙ (ap suc k.counts ∙ sym (add-one made));
        visits = ap (λ l. set l made v) k.visits ∙ (put_visit (visits_of t) vs0 made v (count_visits t ∙ k.counts) h ∙ ap (λ l. l ++ drop (made + 1) vs0) (sym s.visits));
      }

  -- the list of marks only grows
  pub seen_more : {made : ℕ} {d : Description} {vs : List Visit} {t : List Event} → Kept tables code entry d0 vs0 made d vs t → length d0.seen ≤ length d.seen
  seen_more {d = d} {t = t} k =
      let e : length d.seen ≡ length d0.seen + length (marks_of tables d0.rules.shows t) = ap length k.seen ∙ length-append d0.seen (marks_of tables d0.rules.shows t) in
      omega arith

  module _ (nest : Nested code) (law : Lawful d0) (al : Runnable tables code d0 (length vs0)) where
    module _ {made p : ℕ} {fs : List OpenRepeat} {r : List ℕ} {d : Description} {vs : List Visit} (a : At tables code entry d0 vs0 made p fs r d vs) where
      -- the next turn can be taken
      pub turn_able : p < length code → Able (drop p code) fs × (made < most_steps code)
      turn_able h =
          let o = onward tables code nest.0 nest.1 nest.2 (first entry d0.cells) made p fs (state r d.cells a.trace) a.conf h in
          (o.0, let s = steps_left tables code d0 (length vs0) nest al in let q = o.1 in omega arith)

      pub turn_room : p < length code → made < length vs0
      turn_room h = let q = (turn_able h).1 in let s = al.room in omega arith

      after : steps tables code (made + 1) (start entry d0.cells) ≡ next tables code (go p fs (state r d.cells a.trace))
      after = steps_more tables code made (start entry d0.cells) ∙ ap (next tables code) a.conf

      -- what the next trace weighs is within what is free
      afford : (t : List Event) (n : ℕ) → (state_of (next tables code (go p fs (state r d.cells a.trace)))).trace ≡ t
          → weigh (mark_price d0.rules.cost tables) t ≡ n + weigh (mark_price d0.rules.cost tables) a.trace → n ≤ free d
      afford t n e g =
          let w = mark_price d0.rules.cost tables in
          let b : weigh w (state_of (steps tables code (made + 1) (start entry d0.cells))).trace ≤ most_of w nest.0 + 0 = weighs tables code nest.0 nest.1 nest.2 (first entry d0.cells) (made + 1) w in
          let q : weigh w (state_of (steps tables code (made + 1) (start entry d0.cells))).trace ≡ n + weigh w a.trace = ap (λ c. weigh w (state_of c).trace) after ∙ (ap (weigh w) e ∙ g) in
          let m = (marks_left tables code d0 (length vs0) nest law al).0 in
          let k = a.kept in
          let l : length d.seen ≡ length d0.seen + weigh w a.trace = ap length k.seen ∙ (length-append d0.seen (marks_of tables d0.rules.shows a.trace) ∙ ap (λ n. length d0.seen + n) k.weighed) in
          let i : d.rules.limit ≡ d0.rules.limit = ap (λ u. u.limit) k.rules in
          omega arith

      module _ (eight : length tables ≡ 8) (ws : List Window) (laid : Laid tables ws) where
        cost_is : (k : Access) (b : ℕ) → b < 8 → held (map (λ (x : Table). d0.rules.cost k x.length) tables) b ≡ d.rules.cost k (length_of tables b)
        cost_is k b h = get_or-map (λ (x : Table). d0.rules.cost k x.length) tables b no_table 0 (omega arith) ∙ ap (λ u. u.cost k (length_of tables b)) (sym a.kept.rules)

        -- an access in range stands within the cells, and its marks have room
        allowed : (k : Access) (b i : ℕ) → b < 8 → (i < length_of tables b → d.rules.cost k (length_of tables b) ≤ free d) → Allowed d k i (get_or ws b no_window)
        allowed k b i l f =
            subst (Allowed d k i) (sym (laid b l))
            (λ o. (record { below = o; fits = let e = within_all tables b (omega arith) in let h = al.fits in let s = a.kept.size in omega arith }, f o))

        ready_op : (o : Op) (is : List Instruction) → drop p code ≡ Do o ∷ is → FitOp 32 8 o → ReadyOp ws r d o
        ready_op (Set x v) is h f = tt
        ready_op (Pick x y z) is h f = tt
        ready_op (Load x y b) is h f = allowed Read b (held r y) f.2 (λ o.
            let i = held r y in
            let s = state r d.cells a.trace in
            let e1 : ltb i (length_of tables b) ≡ true = lt-ltb i (length_of tables b) o in
            let t = reads p b i ∷ visit p Onward ∷ a.trace in
            let e : (state_of (next tables code (go p fs s))).trace ≡ t =
            ap (λ z. (state_of (step tables code z p fs s)).trace) h ∙ ap (λ z. (state_of (land (loads z p x b i (first_cell tables b + i) s) (suc p) fs)).trace) e1 in
            let c = cost_is Read b f.2 in
            afford t (d.rules.cost Read (length_of tables b)) e (omega arith))
        ready_op (Store x y b) is h f = allowed Write b (held r y) f.2 (λ o.
            let i = held r y in
            let s = state r d.cells a.trace in
            let e1 : ltb i (length_of tables b) ≡ true = lt-ltb i (length_of tables b) o in
            let t = writes p b i ∷ visit p Onward ∷ a.trace in
            let e : (state_of (next tables code (go p fs s))).trace ≡ t =
            ap (λ z. (state_of (step tables code z p fs s)).trace) h ∙ ap (λ z. (state_of (land (stores z p x b i (first_cell tables b + i) s) (suc p) fs)).trace) e1 in
            let c = cost_is Write b f.2 in
            afford t (d.rules.cost Write (length_of tables b)) e (omega arith))

        opened : (fs : List OpenRepeat) (is : List Instruction) → Able (Again ∷ is) fs → 0 < length fs
        opened [] is h = elim h [ ]
        opened (f ∷ gs) is h = omega arith

        ready : (i : Instruction) (is : List Instruction) → drop p code ≡ i ∷ is → Fit 32 8 i → Able (i ∷ is) fs → Ready ws fs r d i
        ready (Do o) is h f b = ready_op o is h f
        ready (If x) is h f b = tt
        ready Else is h f b = tt
        ready End is h f b = tt
        ready (Repeat x k) is h f b = b
        ready Again is h f b = opened fs is b

        pub turn_ready : {i : Instruction} {is : List Instruction} → p < length code → drop p code ≡ i ∷ is → Fit 32 8 i → Ready ws fs r d i
        turn_ready {i = i} {is = is} h g f = ready i is g f (subst (λ (l : List Instruction). Able l fs) g (turn_able h).0)

      pub turn_may : {i : Instruction} {is : List Instruction} → p < length code → drop p code ≡ i ∷ is → Able (i ∷ is) fs
      turn_may h g = subst (λ (l : List Instruction). Able l fs) g (turn_able h).0

      pub turn_more : {m : Move} {fs' : List OpenRepeat} {r' : List ℕ} {d' : Description} → p < length code → (m.choice ≡ Fault → ⊥) → Stepped tables code p fs r d a.trace m fs' r' d'
          → At tables code entry d0 vs0 (made + 1) m.place fs' r' d' (set vs made (visit_at p m.choice))
      turn_more {m = m} {fs' = fs'} {r' = r'} {d' = d'} h n s = record {
        trace = s.trace;
        conf = after ∙ (s.goes ∙ goes_on m.choice p m.place fs' (state r' d'.cells s.trace) n);
        kept = kept_more (turn_room h) a.kept s;
        wide = s.long ∙ a.wide;
      }

      pub turn_fault : {m : Move} {fs' : List OpenRepeat} {r' : List ℕ} {d' : Description} → m.choice ≡ Fault → (s : Stepped tables code p fs r d a.trace m fs' r' d')
          → finish tables code entry d0.cells ≡ stop p (state r' d'.cells s.trace)
      turn_fault {m = m} {fs' = fs'} {r' = r'} {d' = d'} n s =
          finished tables code nest.0 nest.1 nest.2 (first entry d0.cells) (made + 1) (most_steps code) (stop p (state r' d'.cells s.trace))
          (after ∙ (s.goes ∙ ap (λ c. landing c p m.place fs' (state r' d'.cells s.trace)) n))
          (λ z. z) (steps_left tables code d0 (length vs0) nest al)

      pub turn_end : length code ≤ p → finish tables code entry d0.cells ≡ go p fs (state r d.cells a.trace)
      turn_end h =
          finished tables code nest.0 nest.1 nest.2 (first entry d0.cells) made (most_steps code) (go p fs (state r d.cells a.trace)) a.conf (over_at_end code p fs (state r d.cells a.trace) h) (steps_left tables code d0 (length vs0) nest al)

    -- the outcome, at the end or at a fault
    pub outcome : {made marks : ℕ} {fault : Option ℕ} {d : Description} {vs : List Visit} {t : List Event} (r : List ℕ) → Kept tables code entry d0 vs0 made d vs t → state_of (finish tables code entry d0.cells) ≡ state r d.cells t
        → length r ≡ 32 → marks ≡ length d.seen - length d0.seen → fault ≡ fault_of (finish tables code entry d0.cells) → Ended tables code (finish tables code entry d0.cells) d0 d vs0 vs (outcome_of r made marks fault)
    outcome {made = made} {marks = marks} {d = d} {t = t} r k e l g3 g4 =
        let c = finish tables code entry d0.cells in
        let M = marks_of tables d0.rules.shows in
        let w = mark_price d0.rules.cost tables in
        let et : t ≡ (state_of c).trace = ap (λ s. s.trace) (sym e) in
        let el : length d.seen ≡ length d0.seen + length (M t) = ap length k.seen ∙ length-append d0.seen (M t) in
        let em : marks ≡ length (M t) = g3 ∙ (let z : length d.seen - length d0.seen ≡ length (M t) = omega arith in z) in
        let es : made ≡ count t = sym k.counts in
        let bs : weigh each_step (state_of c).trace ≤ most_of each_step nest.0 + 0 = weighs tables code nest.0 nest.1 nest.2 (first entry d0.cells) (most_steps code) each_step in
        let bm : weigh w (state_of c).trace ≤ most_of w nest.0 + 0 = weighs tables code nest.0 nest.1 nest.2 (first entry d0.cells) (most_steps code) w in
        let cs : weigh each_step (state_of c).trace ≡ made = ap (weigh each_step) (sym et) ∙ (counted t ∙ sym es) in
        let cm : weigh w (state_of c).trace ≡ marks = ap (weigh w) (sym et) ∙ (sym k.weighed ∙ sym em) in
        let ls = steps_left tables code d0 (length vs0) nest al in
        let lm = (marks_left tables code d0 (length vs0) nest law al).1 in
        record {
          registers = ap (λ s. s.registers) (sym e);
          wide = l;
          fault = g4;
          steps = es ∙ (sym (count_visits t) ∙ ap (λ x. length (visits_of x)) et);
          few = omega arith;
          visits = k.visits ∙ ap (λ x. visits_of x ++ drop made vs0) et;
          marks = em ∙ ap (λ x. length (M x)) et;
          within = omega arith;
          seen = k.seen ∙ ap (λ x. d0.seen ++ M x) et;
          cells = ap (λ s. s.cells) (sym e);
          size = k.size;
          rules = k.rules;
        }

pub nested_of : (code : List Instruction) → pairing [] 0 code ≡ None → Nested code
nested_of code h = tree (Unit {0}) (λ _. tt) code h

pub reads_nested : (tables : List Table) (code : List Instruction) (entry cells : List ℕ) → Nested code → ReadNested tables code entry cells
reads_nested tables code entry cells t h =
    let e = sums_is each_step t.0 code t.1 in
    (t.0, t.1, comes tables code t.0 t.1 t.2 (first entry cells) 0 (most_steps code) (omega arith))

-- where a run is not over, and where it is
module _ (s : Program) {n p : ℕ} (e : n ≡ s.header.count) where
  pub not_over : false ≡ leb n p → p < length (code_of s)
  not_over f = omega (arith, leb-false n p (sym f), code_long s, e)

  pub is_over : true ≡ leb n p → length (code_of s) ≤ p
  is_over f = omega (arith, leb-true n p (sym f), code_long s, e)
