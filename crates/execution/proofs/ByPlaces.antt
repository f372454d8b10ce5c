-- A run by places does what the nested blocks say.
use Rattle.std.proofs.Common.{◌≡◌, ℕ, zero, suc, ◌+◌, ◌-◌, ◌<◌, ◌≤◌, min, Bool, true, false, ltb, List, ◌∷◌, length, drop, sym, refl, ap, ◌∙◌, subst, ⊎_elim, arith}
use Rattle.std.proofs.lemmas.Bool.{cases_lt}
use Rattle.instructions.specs.declared.Op.{Op}
use Rattle.instructions.specs.declared.Op.TheVariants.{Set, Pick, Load, Store}
use Rattle.instructions.specs.declared.Instruction.{Instruction}
use Rattle.instructions.specs.declared.Instruction.TheVariants.{Do, If, Else, End, Repeat, Again}
use Rattle.program.specs.declared.header.Table.{Table}
use Rattle.program.specs.declared.opening.Opening.{Opening}
use Rattle.program.specs.declared.opening.Opening.TheVariants.{Then, Otherwise, Loop}
use Rattle.program.specs.Headers.{first_cell}
use Rattle.program.specs.Openings.{elsed, ended, againd, around}
use Rattle.program.proofs.Around.{around_next, drop_next}
use Rattle.program.specs.Blocks.{Block, done, one, if_then, if_else, loop, flat, depth, fin}
use Rattle.machine.specs.declared.visit.Choice.TheVariants.{Onward, Inward, Past}
use Rattle.machine.specs.declared.repeat.OpenRepeat.{OpenRepeat}
use Rattle.machine.specs.States.{State, visited}
use Rattle.machine.specs.Machine.{Out, fine, fault, length_of, loads, stores, does, Conf, go, stop, state_of, open_at, closing, land, begin, test, step, next, steps, count}
use Rattle.machine.specs.Nested.{and_then, rounds, repeats, either, exec}
use Rattle.execution.specs.Runs.{Inside, Able, Running}

-- a block closes what it opens
pub closing-flat : {Note : Type 0} (t : Block Note) (b : Bool) (d p : ℕ) (is : List Instruction) → closing b d p (flat t is) ≡ closing b d (fin t p) is
closing-flat done b d p is = refl
closing-flat (one o t) b d p is = closing-flat t b d (suc p) is
closing-flat (if_then c a t u) b d p is = closing-flat t b (suc d) (suc p) (End ∷ flat u is) ∙ closing-flat u b d (suc (fin t (suc p))) is
closing-flat (if_else c a t e u) b d p is =
    closing-flat t b (suc d) (suc p) (Else ∷ flat e (End ∷ flat u is))
    ∙ (closing-flat e b (suc d) (suc (fin t (suc p))) (End ∷ flat u is) ∙ closing-flat u b d (suc (fin e (suc (fin t (suc p))))) is)
closing-flat (loop a k t u) b d p is = closing-flat t b (suc d) (suc p) (Again ∷ flat u is) ∙ closing-flat u b d (suc (fin t (suc p))) is

assoc : (o : Out) (f g : State → Out) → and_then (and_then o f) g ≡ and_then o (λ z. and_then (f z) g)
assoc (fine s) f g = refl
assoc (fault p s) f g = refl

abbrev pub seen : Conf → ℕ
seen c = count (state_of c).trace

module _ (code : List Instruction) where
  pub through : {Note : Type 0} (t : Block Note) (p : ℕ) (is : List Instruction) → drop p code ≡ flat t is → drop (fin t p) code ≡ is
  through done p is h = h
  through (one o t) p is h = through t (suc p) is (drop_next code p (Do o) (flat t is) h)
  through (if_then c a t u) p is h =
      let h1 : drop (suc p) code ≡ flat t (End ∷ flat u is) = drop_next code p (If a) _ h in
      let h2 : drop (fin t (suc p)) code ≡ End ∷ flat u is = through t (suc p) (End ∷ flat u is) h1 in
      through u (suc (fin t (suc p))) is (drop_next code _ End _ h2)
  through (if_else c a t e u) p is h =
      let q = fin t (suc p) in
      let h1 : drop (suc p) code ≡ flat t (Else ∷ flat e (End ∷ flat u is)) = drop_next code p (If a) _ h in
      let h2 : drop q code ≡ Else ∷ flat e (End ∷ flat u is) = through t (suc p) _ h1 in
      let h3 : drop (fin e (suc q)) code ≡ End ∷ flat u is = through e (suc q) _ (drop_next code q Else _ h2) in
      through u (suc (fin e (suc q))) is (drop_next code _ End _ h3)
  through (loop a k t u) p is h =
      let h1 : drop (suc p) code ≡ flat t (Again ∷ flat u is) = drop_next code p (Repeat a k) _ h in
      let h2 : drop (fin t (suc p)) code ≡ Again ∷ flat u is = through t (suc p) (Again ∷ flat u is) h1 in
      through u (suc (fin t (suc p))) is (drop_next code _ Again _ h2)

  -- what is open after a block was open before it
  stays : {Note : Type 0} (t : Block Note) (p : ℕ) (is : List Instruction) → drop p code ≡ flat t is → around code (fin t p) ≡ around code p
  stays done p is h = refl
  stays (one o t) p is h = stays t (suc p) is (drop_next code p (Do o) (flat t is) h) ∙ around_next code p (Do o) (flat t is) h
  stays (if_then c a t u) p is h =
      let q = fin t (suc p) in
      let h1 : drop (suc p) code ≡ flat t (End ∷ flat u is) = drop_next code p (If a) _ h in
      let h2 : drop q code ≡ End ∷ flat u is = through t (suc p) (End ∷ flat u is) h1 in
      stays u (suc q) is (drop_next code q End _ h2) ∙ around_next code q End _ h2 ∙ ap ended (stays t (suc p) _ h1 ∙ around_next code p (If a) _ h)
  stays (if_else c a t e u) p is h =
      let q = fin t (suc p) in
      let r = fin e (suc q) in
      let h1 : drop (suc p) code ≡ flat t (Else ∷ flat e (End ∷ flat u is)) = drop_next code p (If a) _ h in
      let h2 : drop q code ≡ Else ∷ flat e (End ∷ flat u is) = through t (suc p) _ h1 in
      let h3 : drop (suc q) code ≡ flat e (End ∷ flat u is) = drop_next code q Else _ h2 in
      let h4 : drop r code ≡ End ∷ flat u is = through e (suc q) _ h3 in
      let e1 : around code (suc q) ≡ elsed q (Then p a ∷ around code p) = around_next code q Else _ h2 ∙ ap (elsed q) (stays t (suc p) _ h1 ∙ around_next code p (If a) _ h) in
      stays u (suc r) is (drop_next code r End _ h4) ∙ around_next code r End _ h4 ∙ ap ended (stays e (suc q) _ h3 ∙ e1)
  stays (loop a k t u) p is h =
      let q = fin t (suc p) in
      let h1 : drop (suc p) code ≡ flat t (Again ∷ flat u is) = drop_next code p (Repeat a k) _ h in
      let h2 : drop q code ≡ Again ∷ flat u is = through t (suc p) (Again ∷ flat u is) h1 in
      stays u (suc q) is (drop_next code q Again _ h2) ∙ around_next code q Again _ h2 ∙ ap againd (stays t (suc p) _ h1 ∙ around_next code p (Repeat a k) _ h)

there : (fs : List OpenRepeat) {os ps : List Opening} → os ≡ ps → Inside ps fs → Inside os fs
there fs e o = subst (λ (x : List Opening). Inside x fs) (sym e) o

module _ (tables : List Table) (code : List Instruction) where
  -- d is reached from c, by as many steps as visits, and until then the run is not over
  pub record Reach (c d : Conf) : Type 0 where
    pub turns : ℕ
    pub goes : steps tables code turns c ≡ d
    pub counts : turns + seen c ≡ seen d
    pub running : (k : ℕ) → k < turns → Running code (steps tables code k c)

  arrive : (c d : Conf) → c ≡ d → Reach c d
  arrive c d e = record { turns = 0; goes = e; counts = let k = ap seen e in omega arith; running = λ k h. absurd (omega arith) }

  here : (c : Conf) → Reach c c
  here c = arrive c c refl

  pub split_steps : (m k : ℕ) (c : Conf) → steps tables code (m + k) c ≡ steps tables code k (steps tables code m c)
  split_steps zero k c = let e : 0 + k ≡ k = omega arith in ap (λ n. steps tables code n c) e
  split_steps (suc m) k c =
      let e : suc m + k ≡ suc (m + k) = omega arith in
      ap (λ n. steps tables code n c) e ∙ split_steps m k (next tables code c)

  join : (c d e : Conf) → Reach c d → Reach d e → Reach c e
  join c d e r s =
      let m = r.turns in
      let n = s.turns in
      record {
        turns = m + n;
        goes = split_steps m n c ∙ (ap (steps tables code n) r.goes ∙ s.goes);
        counts = let a = r.counts in let b = s.counts in omega arith;
        running = λ k h.
            ⊎_elim (λ (l : k < m). r.running k l)
            (λ (l : m ≤ k).
            let f : k ≡ m + (k - m) = omega arith in
            let g : steps tables code k c ≡ steps tables code (k - m) d = ap (λ x. steps tables code x c) f ∙ (split_steps m (k - m) c ∙ ap (steps tables code (k - m)) r.goes) in
            subst (Running code) (sym g) (s.running (k - m) (omega arith)))
            (cases_lt k m);
      }

  one_step : (p : ℕ) (fs : List OpenRepeat) (s : State) (i : Instruction) (is : List Instruction) (e : Conf)
      → drop p code ≡ i ∷ is → Able (i ∷ is) fs → Inside (around code p) fs → seen (step tables code (i ∷ is) p fs s) ≡ suc (count s.trace) → Reach (step tables code (i ∷ is) p fs s) e → Reach (go p fs s) e
  one_step p fs s i is e h b o g r =
      record {
        turns = suc r.turns;
        goes = ap (λ l. steps tables code r.turns (step tables code l p fs s)) h ∙ r.goes;
        counts = let a = r.counts in omega arith;
        running = later;
      }
    where
      later : (k : ℕ) → k < suc r.turns → Running code (steps tables code k (go p fs s))
      later zero l = (subst (λ x. Able x fs) (sym h) b, o)
      later (suc k) l = subst (λ x. Running code (steps tables code k (step tables code x p fs s))) (sym h) (r.running k (omega arith))

  op_seen : (p q : ℕ) (o : Op) (fs : List OpenRepeat) (s : State) → seen (land (does tables p o s) q fs) ≡ suc (count s.trace)
  op_seen p q (Set d r) fs s = refl
  op_seen p q (Pick d a b) fs s = refl
  op_seen p q (Load d a b) fs s = elim (ltb (s.registers a) (length_of tables b)) as (λ v. seen (land (loads v p d b (s.registers a) (first_cell tables b + s.registers a) s) q fs) ≡ suc (count s.trace)) [ true ↦ refl | false ↦ refl ]
  op_seen p q (Store d a b) fs s = elim (ltb (s.registers a) (length_of tables b)) as (λ v. seen (land (stores v p d b (s.registers a) (first_cell tables b + s.registers a) s) q fs) ≡ suc (count s.trace)) [ true ↦ refl | false ↦ refl ]

  test-seen : (n p : ℕ) (is : List Instruction) (fs : List OpenRepeat) (s : State) → seen (test tables code n p is fs s) ≡ suc (count s.trace)
  test-seen zero p is fs s = refl
  test-seen (suc n) p is fs s = refl

  begin-seen : (n p : ℕ) (is : List Instruction) (fs : List OpenRepeat) (s : State) → seen (begin n p is fs s) ≡ suc (count s.trace)
  begin-seen zero p is fs s = refl
  begin-seen (suc n) p is fs s = refl

  then : (o : Out) (k : State → Out) (q q' : ℕ) (fs fs' : List OpenRepeat)
      → ((s : State) → Reach (go q fs s) (land (k s) q' fs')) → Reach (land o q fs) (land (and_then o k) q' fs')
  then (fine s) k q q' fs fs' f = f s
  then (fault p s) k q q' fs fs' f = here (stop p s)

  abbrev Runs : {Note : Type 0} → Block Note → ℕ → Type 0
  Runs t p = (fs : List OpenRepeat) (s : State) → depth t + length fs ≤ 8 → Inside (around code p) fs → Reach (go p fs s) (land (exec tables t p s) (fin t p) fs)

  -- t and then k, where k goes on from the place after t
  seq : {Note : Type 0} (t : Block Note) (p q' : ℕ) (fs fs' : List OpenRepeat) (s : State) (k : State → Out) → depth t + length fs ≤ 8 → Inside (around code p) fs → Runs t p
      → ((z : State) → Reach (go (fin t p) fs z) (land (k z) q' fs')) → Reach (go p fs s) (land (and_then (exec tables t p s) k) q' fs')
  seq t p q' fs fs' s k l o r f =
      join (go p fs s) (land (exec tables t p s) (fin t p) fs) (land (and_then (exec tables t p s) k) q' fs') (r fs s l o)
      (then (exec tables t p s) k (fin t p) q' fs fs' f)

  case_then : {Note : Type 0} (n p q' : ℕ) (t : Block Note) (is : List Instruction) (fs : List OpenRepeat) (s : State) (k : State → Out)
      → drop (fin t (suc p)) code ≡ End ∷ is → depth t + length fs ≤ 8 → Inside (around code (suc p)) fs → Runs t (suc p)
      → ((z : State) → Reach (go (fin t (suc p)) fs z) (land (k z) q' fs))
      → Reach (test tables code n p (flat t (End ∷ is)) fs s) (land (and_then (either n p (exec tables t (suc p)) fine s) k) q' fs)
  case_then zero p q' t is fs s k h l o r f =
      rw (closing-flat t true zero (suc p) (End ∷ is), h) (f (visited p Past s))
  case_then (suc n) p q' t is fs s k h l o r f = seq t (suc p) q' fs fs (visited p Inward s) k l o r f

  case_else : {Note : Type 0} (n p q' : ℕ) (t e : Block Note) (is : List Instruction) (fs : List OpenRepeat) (s : State) (k : State → Out)
      → drop (fin t (suc p)) code ≡ Else ∷ flat e (End ∷ is)
      → depth t + length fs ≤ 8 → depth e + length fs ≤ 8
      → Inside (around code (suc p)) fs → Inside (around code (fin t (suc p))) fs → Inside (around code (suc (fin t (suc p)))) fs
      → Runs t (suc p) → Runs e (suc (fin t (suc p)))
      → ((z : State) → Reach (go (fin e (suc (fin t (suc p)))) fs z) (land (k z) q' fs))
      → Reach (test tables code n p (flat t (Else ∷ flat e (End ∷ is))) fs s)
      (land (and_then (either n p (λ y. and_then (exec tables t (suc p) y) (λ z. fine (visited (fin t (suc p)) Onward z))) (exec tables e (suc (fin t (suc p)))) s) k) q' fs)
  case_else zero p q' t e is fs s k h l l' o o1 o2 r r' f =
      rw (closing-flat t true zero (suc p) (Else ∷ flat e (End ∷ is)), h) (seq e (suc (fin t (suc p))) q' fs fs (visited p Past s) k l' o2 r' f)
  case_else (suc n) p q' t e is fs s k h l l' o o1 o2 r r' f =
      let q = fin t (suc p) in
      let j : (z : State) → Reach (go q fs z) (go (fin e (suc q)) fs (visited q Onward z)) =
      λ z. one_step q fs z Else (flat e (End ∷ is)) _ h tt o1 refl (arrive _ _ (ap (λ x. go x fs (visited q Onward z)) (closing-flat e false zero (suc q) (End ∷ is)))) in
      rw (assoc (exec tables t (suc p) (visited p Inward s)) (λ z. fine (visited q Onward z)) k) (seq t (suc p) q' fs fs (visited p Inward s) (λ z. k (visited q Onward z)) l o r (λ z. join _ _ _ (j z) (f (visited q Onward z))))

  all_rounds : {Note : Type 0} (m p : ℕ) (t : Block Note) (is : List Instruction) (fs : List OpenRepeat) (s : State)
      → drop (fin t (suc p)) code ≡ Again ∷ is → depth t + suc (length fs) ≤ 8
      → around code (suc p) ≡ Loop p ∷ around code p → around code (fin t (suc p)) ≡ Loop p ∷ around code p → Inside (around code p) fs → Runs t (suc p)
      → Reach (go (suc p) (open_at (suc p) (suc m) ∷ fs) s) (land (rounds (exec tables t (suc p)) (fin t (suc p)) m s) (suc (fin t (suc p))) fs)
  all_rounds zero p t is fs s h l e1 e2 o r =
      let q = fin t (suc p) in
      seq t (suc p) (suc q) (open_at (suc p) (suc zero) ∷ fs) fs s (λ z. fine (visited q Past z)) l (there (open_at (suc p) (suc zero) ∷ fs) e1 (refl, omega arith, o)) r
      (λ z. one_step q (open_at (suc p) (suc zero) ∷ fs) z Again is _ h tt (there (open_at (suc p) (suc zero) ∷ fs) e2 (refl, omega arith, o)) refl (here _))
  all_rounds (suc m) p t is fs s h l e1 e2 o r =
      let q = fin t (suc p) in
      seq t (suc p) (suc q) (open_at (suc p) (suc (suc m)) ∷ fs) fs s (λ z. rounds (exec tables t (suc p)) q m (visited q Inward z)) l (there (open_at (suc p) (suc (suc m)) ∷ fs) e1 (refl, omega arith, o)) r
      (λ z. one_step q (open_at (suc p) (suc (suc m)) ∷ fs) z Again is _ h tt (there (open_at (suc p) (suc (suc m)) ∷ fs) e2 (refl, omega arith, o)) refl (all_rounds m p t is fs (visited q Inward z) h l e1 e2 o r))

  case_loop : {Note : Type 0} (n p : ℕ) (t : Block Note) (is : List Instruction) (fs : List OpenRepeat) (s : State)
      → drop (fin t (suc p)) code ≡ Again ∷ is → depth t + suc (length fs) ≤ 8
      → around code (suc p) ≡ Loop p ∷ around code p → around code (fin t (suc p)) ≡ Loop p ∷ around code p → Inside (around code p) fs → Runs t (suc p)
      → Reach (begin n p (flat t (Again ∷ is)) fs s) (land (repeats (exec tables t (suc p)) p (fin t (suc p)) n s) (suc (fin t (suc p))) fs)
  case_loop zero p t is fs s h l e1 e2 o r = arrive _ _ (ap (λ x. go (suc x) fs (visited p Past s)) (closing-flat t false zero (suc p) (Again ∷ is)))
  case_loop (suc m) p t is fs s h l e1 e2 o r = all_rounds m p t is fs (visited p Inward s) h l e1 e2 o r

  pub runs : {Note : Type 0} (t : Block Note) (p : ℕ) (is : List Instruction) → drop p code ≡ flat t is → Runs t p
  runs done p is h fs s d o = here (go p fs s)
  runs (one op t) p is h fs s d o =
      one_step p fs s (Do op) (flat t is) _ h tt o (op_seen p (suc p) op fs s)
      (then (does tables p op s) (exec tables t (suc p)) (suc p) (fin t (suc p)) fs fs
      (λ z. runs t (suc p) is (drop_next code p (Do op) (flat t is) h) fs z d (there fs (around_next code p (Do op) _ h) o)))
  runs (if_then c a t u) p is h fs s d o =
      let q = fin t (suc p) in
      let h1 = drop_next code p (If a) (flat t (End ∷ flat u is)) h in
      let h2 = through code t (suc p) (End ∷ flat u is) h1 in
      let e1 : around code (suc p) ≡ Then p a ∷ around code p = around_next code p (If a) _ h in
      let e2 : around code q ≡ Then p a ∷ around code p = stays code t (suc p) _ h1 ∙ e1 in
      let e3 : around code (suc q) ≡ around code p = around_next code q End _ h2 ∙ ap ended e2 in
      one_step p fs s (If a) (flat t (End ∷ flat u is)) _ h tt o (test-seen (s.registers a) p _ fs s)
      (case_then (s.registers a) p (fin u (suc q)) t (flat u is) fs s (λ z. exec tables u (suc q) (visited q Onward z)) h2 (omega arith) (there fs e1 o) (runs t (suc p) _ h1)
      (λ z. one_step q fs z End (flat u is) _ h2 tt (there fs e2 o) refl (runs u (suc q) is (drop_next code q End (flat u is) h2) fs (visited q Onward z) (omega arith) (there fs e3 o))))
  runs (if_else c a t e u) p is h fs s d o =
      let q = fin t (suc p) in
      let r = fin e (suc q) in
      let h1 = drop_next code p (If a) (flat t (Else ∷ flat e (End ∷ flat u is))) h in
      let h2 = through code t (suc p) (Else ∷ flat e (End ∷ flat u is)) h1 in
      let h3 = drop_next code q Else (flat e (End ∷ flat u is)) h2 in
      let h4 = through code e (suc q) (End ∷ flat u is) h3 in
      let e1 : around code (suc p) ≡ Then p a ∷ around code p = around_next code p (If a) _ h in
      let e2 : around code q ≡ Then p a ∷ around code p = stays code t (suc p) _ h1 ∙ e1 in
      let e3 : around code (suc q) ≡ Otherwise p a q ∷ around code p = around_next code q Else _ h2 ∙ ap (elsed q) e2 in
      let e4 : around code r ≡ Otherwise p a q ∷ around code p = stays code e (suc q) _ h3 ∙ e3 in
      let e5 : around code (suc r) ≡ around code p = around_next code r End _ h4 ∙ ap ended e4 in
      one_step p fs s (If a) (flat t (Else ∷ flat e (End ∷ flat u is))) _ h tt o (test-seen (s.registers a) p _ fs s)
      (case_else (s.registers a) p (fin u (suc r)) t e (flat u is) fs s (λ z. exec tables u (suc r) (visited r Onward z)) h2 (omega arith) (omega arith) (there fs e1 o) (there fs e2 o) (there fs e3 o) (runs t (suc p) _ h1) (runs e (suc q) _ h3)
      (λ z. one_step r fs z End (flat u is) _ h4 tt (there fs e4 o) refl (runs u (suc r) is (drop_next code r End (flat u is) h4) fs (visited r Onward z) (omega arith) (there fs e5 o))))
  runs (loop a k t u) p is h fs s d o =
      let q = fin t (suc p) in
      let h1 = drop_next code p (Repeat a k) (flat t (Again ∷ flat u is)) h in
      let h2 = through code t (suc p) (Again ∷ flat u is) h1 in
      let n = min (s.registers a) k in
      let e1 : around code (suc p) ≡ Loop p ∷ around code p = around_next code p (Repeat a k) _ h in
      let e2 : around code q ≡ Loop p ∷ around code p = stays code t (suc p) _ h1 ∙ e1 in
      let e3 : around code (suc q) ≡ around code p = around_next code q Again _ h2 ∙ ap againd e2 in
      one_step p fs s (Repeat a k) (flat t (Again ∷ flat u is)) _ h (omega arith) o (begin-seen n p _ fs s)
      (join _ _ _ (case_loop n p t (flat u is) fs s h2 (omega arith) e1 e2 o (runs t (suc p) _ h1))
      (then (repeats (exec tables t (suc p)) p q n s) (exec tables u (suc q)) (suc q) (fin u (suc q)) fs fs
      (λ z. runs u (suc q) is (drop_next code q Again (flat u is) h2) fs z (omega arith) (there fs e3 o))))
