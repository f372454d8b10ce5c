-- An op in two runs that agree on what is public.
use Rattle.std.proofs.Common.{◌≡◌, ℕ, ◌+◌, ◌<◌, Bool, true, false, cond, ◌||◌, ◌==◌, nat_lt, ltb-true, ne_eqb, List, ◌∷◌, None, sym, refl, ap, ◌∙◌, subst, ◌≢◌, inl, true≢false}
use Rattle.std.proofs.lemmas.Bool.{or_parts, false≢true}
use Rattle.instructions.specs.declared.Op.{Op}
use Rattle.instructions.specs.declared.Op.TheVariants.{Set, Pick, Load, Store}
use Rattle.program.specs.declared.header.Table.{Table}
use Rattle.program.specs.Headers.{first_cell}
use Rattle.labels.specs.Kinds.{secrecy}
use Rattle.labels.specs.Rules.{Sub, leaves}
use Rattle.machine.specs.declared.visit.Choice.{Choice}
use Rattle.machine.specs.declared.visit.Choice.TheVariants.{Onward, Fault}
use Rattle.machine.specs.States.{Event, visit, reads, writes, State, changed, visited}
use Rattle.machine.specs.Machine.{Out, length_of, loads, stores, does}
use Rattle.conversion.specs.Refusing.{wrong_op}
use Rattle.secrecy.specs.Alike.{LooksLike, same, hidden_read, hidden_write, Alike}
use Rattle.secrecy.proofs.Public.{publics}
use Rattle.secrecy.proofs.Passing.{Hides, Shows, load_passes, store_passes}
use Rattle.secrecy.proofs.Apart.{tables_apart}
use Rattle.secrecy.specs.Together.{all_secret}
use Rattle.secrecy.proofs.Same.{value_same, pick_same, put_same}
use Rattle.secrecy.proofs.Meeting.{Hiding, Meets}

module _ (tables : List Table) (secret hidden : ℕ → Bool) where
  abbrev pub Agree : (ℕ → Bool) → State → State → Type 0
  Agree A x y = Alike tables secret hidden A x y

  abbrev pub Meeting : (State → State → Type 0) → Out → Out → Type 0
  Meeting P o u = Meets tables secret hidden P o u

  pub agree_less : (A B : ℕ → Bool) (x y : State) → Sub secrecy A B → Agree A x y → Agree B x y
  agree_less A B x y f h = record { registers = λ r e. h.registers r (publics A B f r e); cells = h.cells; trace = h.trace }

  pub agree_visit : (A : ℕ → Bool) (p : ℕ) (c : Choice) (x y : State) → Agree A x y → Agree A (visited p c x) (visited p c y)
  agree_visit A p c x y h = record { registers = h.registers; cells = h.cells; trace = same (visit p c) h.trace }

  -- two accesses of one table are seen alike where the offsets are the same, or the table is hidden
  reads_alike : (p t i j : ℕ) (u v : List Event) (c : Bool) → (c ≡ false → i ≡ j) → (c ≡ true → hidden t ≡ true) → i < length_of tables t → j < length_of tables t
      → LooksLike tables hidden u v → LooksLike tables hidden (reads p t i ∷ u) (reads p t j ∷ v)
  reads_alike p t i j u v true f g li lj h = hidden_read p t i j (g refl) li lj h
  reads_alike p t i j u v false f g li lj h = subst (λ k. LooksLike tables hidden (reads p t i ∷ u) (reads p t k ∷ v)) (f refl) (same (reads p t i) h)

  writes_alike : (p t i j : ℕ) (u v : List Event) (c : Bool) → (c ≡ false → i ≡ j) → (c ≡ true → hidden t ≡ true) → i < length_of tables t → j < length_of tables t
      → LooksLike tables hidden u v → LooksLike tables hidden (writes p t i ∷ u) (writes p t j ∷ v)
  writes_alike p t i j u v true f g li lj h = hidden_write p t i j (g refl) li lj h
  writes_alike p t i j u v false f g li lj h = subst (λ k. LooksLike tables hidden (writes p t i ∷ u) (writes p t k ∷ v)) (f refl) (same (writes p t i) h)

  -- both fault at p
  faulted : (A : ℕ → Bool) (p : ℕ) (x y : State) → Agree A x y → Agree all_secret (visited p Fault x) (visited p Fault y)
  faulted A p x y h = record { registers = λ r e. absurd (true≢false e); cells = h.cells; trace = same (visit p Fault) h.trace }

  -- one faults and the other does not: the index is secret, so the table is hidden
  apart : (A : ℕ → Bool) (a t : ℕ) (x y : State) → Hides secret hidden A a t → Agree A x y → (c : Bool) → A a ≡ c → {u v : Bool}
      → nat_lt (x.registers a) (length_of tables t) ≡ u → nat_lt (y.registers a) (length_of tables t) ≡ v → u ≢ v → Hiding tables secret hidden
  apart A a t x y k h true e f g n = (t, k e)
  apart A a t x y k h false e f g n = absurd (n (sym f ∙ (ap (λ i. nat_lt i (length_of tables t)) (h.registers a e) ∙ g)))

  load_agrees : (A : ℕ → Bool) (p d a t : ℕ) (x y : State) → Hides secret hidden A a t → Agree A x y
      → (c e : Bool) → nat_lt (x.registers a) (length_of tables t) ≡ c → nat_lt (y.registers a) (length_of tables t) ≡ e
      → Meeting (Agree (leaves secrecy secret false (Load d a t) A)) (loads c p d t (x.registers a) (first_cell tables t + x.registers a) x) (loads e p d t (y.registers a) (first_cell tables t + y.registers a) y)
  load_agrees A p d a t x y k h false false f g = inl (refl, faulted A p x y h)
  load_agrees A p d a t x y k h false true f g = apart A a t x y k h (A a) refl f g false≢true
  load_agrees A p d a t x y k h true false f g = apart A a t x y k h (A a) refl f g true≢false
  load_agrees A p d a t x y k h true true f g =
      let i = x.registers a in
      let j = y.registers a in
      let li = ltb-true i (length_of tables t) f in
      let lj = ltb-true j (length_of tables t) g in
      record {
        registers =
            put_same A x.registers y.registers h.registers d _ _ (A a || secret t)
            (λ e.
            let q = or_parts (A a) (secret t) e in
            ap (λ r. x.cells (first_cell tables t + r)) (h.registers a q.0) ∙ h.cells t j q.1 lj);
        cells = h.cells;
        trace = reads_alike p t i j _ _ (A a) (h.registers a) k li lj (same (visit p Onward) h.trace);
      }

  -- a store in both runs leaves the cells of public tables the same
  stored : (t u i j r v w : ℕ) (x y : State) → i < length_of tables t → j < length_of tables t → r < length_of tables u → secret u ≡ false
      → (secret t ≡ false → (i ≡ j) × (v ≡ w)) → x.cells (first_cell tables u + r) ≡ y.cells (first_cell tables u + r) → (c : Bool) → secret t ≡ c
      → changed x.cells (first_cell tables t + i) v (first_cell tables u + r) ≡ changed y.cells (first_cell tables t + j) w (first_cell tables u + r)
  stored t u i j r v w x y li lj lr e k h true f =
      let other : u ≡ t → ⊥ = λ d. true≢false (sym f ∙ (ap secret (sym d) ∙ e)) in
      let far : (m : ℕ) → m < length_of tables t → (first_cell tables u + r == first_cell tables t + m) ≡ false =
      λ m l. ne_eqb (first_cell tables u + r) (first_cell tables t + m) (λ d. other (tables_apart tables u t r m lr l d)) in
      rw (far i li, far j lj) h
  stored t u i j r v w x y li lj lr e k h false f =
      let d = k f in
      rw (d.0, d.1) (ap (λ z. cond (first_cell tables u + r == first_cell tables t + j) w z) h)

  store_agrees : (A : ℕ → Bool) (p d a t : ℕ) (x y : State) → Hides secret hidden A a t → Shows secret hidden A false d a t → Agree A x y
      → (c e : Bool) → nat_lt (x.registers a) (length_of tables t) ≡ c → nat_lt (y.registers a) (length_of tables t) ≡ e
      → Meeting (Agree A) (stores c p d t (x.registers a) (first_cell tables t + x.registers a) x) (stores e p d t (y.registers a) (first_cell tables t + y.registers a) y)
  store_agrees A p d a t x y k s h false false f g = inl (refl, faulted A p x y h)
  store_agrees A p d a t x y k s h false true f g = apart A a t x y k h (A a) refl f g false≢true
  store_agrees A p d a t x y k s h true false f g = apart A a t x y k h (A a) refl f g true≢false
  store_agrees A p d a t x y k s h true true f g =
      let i = x.registers a in
      let j = y.registers a in
      let li = ltb-true i (length_of tables t) f in
      let lj = ltb-true j (length_of tables t) g in
      record {
        registers = h.registers;
        cells = λ u r e l. stored t u i j r (x.registers d) (y.registers d) x y li lj l e (λ q. let z = s q in (h.registers a z.2, h.registers d z.1)) (h.cells u r e l) (secret t) refl;
        trace = writes_alike p t i j _ _ (A a) (h.registers a) k li lj (same (visit p Onward) h.trace);
      }

  pub op_agrees : (A : ℕ → Bool) (p : ℕ) (op : Op) (x y : State) → wrong_op secret hidden A false op ≡ None → Agree A x y
      → Meeting (Agree (leaves secrecy secret false op A)) (does tables p op x) (does tables p op y)
  op_agrees A p (Set d v) x y k h =
      record { registers = put_same A x.registers y.registers h.registers d _ _ _ (value_same A x.registers y.registers h.registers v); cells = h.cells; trace = same (visit p Onward) h.trace }
  op_agrees A p (Pick d a b) x y k h =
      record { registers = put_same A x.registers y.registers h.registers d _ _ _ (pick_same A x.registers y.registers h.registers d a b); cells = h.cells; trace = same (visit p Onward) h.trace }
  op_agrees A p (Load d a t) x y k h = load_agrees A p d a t x y (load_passes secret hidden A false d a t k) h (nat_lt (x.registers a) (length_of tables t)) (nat_lt (y.registers a) (length_of tables t)) refl refl
  op_agrees A p (Store d a t) x y k h = let s = store_passes secret hidden A false d a t k in store_agrees A p d a t x y s.0 s.1 h (nat_lt (x.registers a) (length_of tables t)) (nat_lt (y.registers a) (length_of tables t)) refl refl
