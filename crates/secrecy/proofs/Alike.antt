-- Two runs that agree on what is public agree on what is public where both come to the end.
use Rattle.std.proofs.Common.{ℕ, zero, suc, Bool, false, min, List, subst₂}
use Rattle.program.specs.declared.header.Table.{Table}
use Rattle.program.specs.Blocks.{Block, done, one, if_then, if_else, loop, fin}
use Rattle.labels.specs.Kinds.{secrecy}
use Rattle.labels.specs.Rules.{leaves}
use Rattle.machine.specs.declared.visit.Choice.TheVariants.{Onward, Inward, Past}
use Rattle.machine.specs.States.{State, visited}
use Rattle.machine.specs.Machine.{Out, fine, does}
use Rattle.machine.specs.Nested.{and_then, rounds, repeats, either, exec}
use Rattle.secrecy.specs.Carried.{Carried}
use Rattle.secrecy.specs.Alike.{Alike, RunsAlike}
use Rattle.secrecy.proofs.Meeting.{Meets, then}
use Rattle.secrecy.proofs.Ops.{agree_less, agree_visit, op_agrees}

module _ (tables : List Table) (secret hidden : ℕ → Bool) where
  abbrev Agree : (ℕ → Bool) → State → State → Type 0
  Agree A x y = Alike tables secret hidden A x y

  abbrev Meeting : (State → State → Type 0) → Out → Out → Type 0
  Meeting P o u = Meets tables secret hidden P o u

  -- from states that agree under A, agreement under B
  abbrev Moves : (ℕ → Bool) → (ℕ → Bool) → (State → Out) → Type 0
  Moves A B f = (x y : State) → Agree A x y → Meeting (Agree B) (f x) (f y)

  either_agrees : (A B : ℕ → Bool) (n p : ℕ) (f g : State → Out) → Moves A B f → Moves A B g → Moves A B (either n p f g)
  either_agrees A B zero p f g mf mg x y h = mg (visited p Past x) (visited p Past y) (agree_visit tables secret hidden A p Past x y h)
  either_agrees A B (suc n) p f g mf mg x y h = mf (visited p Inward x) (visited p Inward y) (agree_visit tables secret hidden A p Inward x y h)

  rounds_agree : (C : ℕ → Bool) (m q : ℕ) (f : State → Out) → Moves C C f → Moves C C (rounds f q m)
  rounds_agree C zero q f m x y h = then tables secret hidden (Agree C) (Agree C) (f x) (f y) _ _ (m x y h) (λ z w k. agree_visit tables secret hidden C q Past z w k)
  rounds_agree C (suc n) q f m x y h =
      then tables secret hidden (Agree C) (Agree C) (f x) (f y) _ _ (m x y h) (λ z w k. rounds_agree C n q f m (visited q Inward z) (visited q Inward w) (agree_visit tables secret hidden C q Inward z w k))

  repeats_agree : (C : ℕ → Bool) (m p q : ℕ) (f : State → Out) → Moves C C f → Moves C C (repeats f p q m)
  repeats_agree C zero p q f m x y h = agree_visit tables secret hidden C p Past x y h
  repeats_agree C (suc n) p q f m x y h = rounds_agree C n q f m (visited p Inward x) (visited p Inward y) (agree_visit tables secret hidden C p Inward x y h)

  pub exec_agrees : {Note : Type 0} (b : Block Note) (A B : ℕ → Bool) (p : ℕ) → Carried secret hidden A b B → Moves A B (exec tables b p)
  exec_agrees done A B p c x y h = agree_less tables secret hidden A B x y c h
  exec_agrees (one op b) A B p c x y h =
      let C = leaves secrecy secret false op A in
      then tables secret hidden (Agree C) (Agree B) (does tables p op x) (does tables p op y) _ _ (op_agrees tables secret hidden A p op x y c.0 h) (exec_agrees b C B (suc p) c.1)
  exec_agrees (if_then n a t b) A B p c x y h =
      let q = fin t (suc p) in
      let C = c.1.0 in
      let f = exec tables t (suc p) in
      let e : Meeting (Agree C) (either (x.registers a) p f fine x) (either (y.registers a) p f fine y) =
      rw (h.registers a c.0) (either_agrees A C (y.registers a) p f fine (exec_agrees t A C (suc p) c.1.1) (λ z w k. agree_less tables secret hidden A C z w c.1.2 k) x y h) in
      then tables secret hidden (Agree C) (Agree B) (either (x.registers a) p f fine x) (either (y.registers a) p f fine y) _ _ e
      (λ z w k. exec_agrees b C B (suc q) c.1.3 (visited q Onward z) (visited q Onward w) (agree_visit tables secret hidden C q Onward z w k))
  exec_agrees (if_else n a t u b) A B p c x y h =
      let q = fin t (suc p) in
      let r = fin u (suc q) in
      let C = c.1.0 in
      let f = λ (s : State). and_then (exec tables t (suc p) s) (λ z. fine (visited q Onward z)) in
      let g = exec tables u (suc q) in
      let m : Moves A C f = λ z w k. then tables secret hidden (Agree C) (Agree C) (exec tables t (suc p) z) (exec tables t (suc p) w) _ _ (exec_agrees t A C (suc p) c.1.1 z w k) (agree_visit tables secret hidden C q Onward) in
      let e : Meeting (Agree C) (either (x.registers a) p f g x) (either (y.registers a) p f g y) =
      rw (h.registers a c.0) (either_agrees A C (y.registers a) p f g m (exec_agrees u A C (suc q) c.1.2) x y h) in
      then tables secret hidden (Agree C) (Agree B) (either (x.registers a) p f g x) (either (y.registers a) p f g y) _ _ e
      (λ z w k. exec_agrees b C B (suc r) c.1.3 (visited r Onward z) (visited r Onward w) (agree_visit tables secret hidden C r Onward z w k))
  exec_agrees (loop a k t b) A B p c x y h =
      let q = fin t (suc p) in
      let C = c.1.0 in
      let f = exec tables t (suc p) in
      let e : Meeting (Agree C) (repeats f p q (min (x.registers a) k) x) (repeats f p q (min (y.registers a) k) y) =
      rw (h.registers a c.0) (repeats_agree C (min (y.registers a) k) p q f (exec_agrees t C C (suc p) c.1.2) x y (agree_less tables secret hidden A C x y c.1.1 h)) in
      then tables secret hidden (Agree C) (Agree B) (repeats f p q (min (x.registers a) k) x) (repeats f p q (min (y.registers a) k) y) _ _ e (exec_agrees b C B (suc q) c.1.3)

pub runs_alike : {Note : Type 0} → RunsAlike Note
runs_alike tables secret hidden b A B p x y z w c h e f =
    subst₂ (Meets tables secret hidden (Alike tables secret hidden B)) e f (exec_agrees tables secret hidden b A B p c x y h)
