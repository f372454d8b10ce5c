-- The whole run of a block.
use Rattle.std.proofs.Common.{◌≡◌, ℕ, zero, suc, ◌+◌, ◌-◌, ◌≤◌, List, [], ◌∷◌, length, drop, sym, refl, ap, ◌∙◌, subst, arith}
use Rattle.instructions.specs.declared.Instruction.{Instruction}
use Rattle.instructions.specs.declared.Instruction.TheVariants.{Else, End, Again}
use Rattle.program.specs.declared.header.Table.{Table}
use Rattle.program.specs.declared.opening.Opening.{Opening}
use Rattle.program.proofs.Around.{around_none}
use Rattle.program.specs.Blocks.{Block, done, one, if_then, if_else, loop, flat, depth, fin}
use Rattle.machine.specs.States.{State}
use Rattle.machine.specs.Machine.{Out, fine, fault, Conf, go, state_of, land, step, next, steps, count}
use Rattle.machine.specs.Nested.{exec}
use Rattle.machine.specs.Most.{Price, each_step, weigh, most_of}
use Rattle.execution.specs.Runs.{Inside, Whole, RunsEnd}
use Rattle.execution.proofs.ByPlaces.{seen, Reach, runs, through, split_steps}
use Rattle.execution.proofs.Counted.{state_in, adds, counted}
use Rattle.execution.proofs.Grows.{steps_grow}

rest : (tables : List Table) (code : List Instruction) (k : ℕ) (c : Conf) → next tables code c ≡ c → steps tables code k c ≡ c
rest tables code zero c h = refl
rest tables code (suc k) c h = ap (steps tables code k) h ∙ rest tables code k c h

land_state : (o : Out) (p : ℕ) → state_of (land o p []) ≡ state_in o
land_state (fine s) p = refl
land_state (fault q s) p = refl

land_rest : (tables : List Table) (code : List Instruction) (o : Out) (p : ℕ) → drop p code ≡ [] → next tables code (land o p []) ≡ land o p []
land_rest tables code (fine s) p h = ap (λ l. step tables code l p [] s) h
land_rest tables code (fault q s) p h = refl

pub long : {Note : Type 0} (b : Block Note) (p : ℕ) (is : List Instruction) → p + length (flat b is) ≡ fin b p + length is
long done p is = refl
long (one o b) p is = let e = long b (suc p) is in omega arith
long (if_then c a t b) p is = let e = long t (suc p) (End ∷ flat b is) in let f = long b (suc (fin t (suc p))) is in omega arith
long (if_else c a t e b) p is =
    let h = long t (suc p) (Else ∷ flat e (End ∷ flat b is)) in
    let g = long e (suc (fin t (suc p))) (End ∷ flat b is) in
    let f = long b (suc (fin e (suc (fin t (suc p))))) is in
    omega arith
long (loop a k t b) p is = let e = long t (suc p) (Again ∷ flat b is) in let f = long b (suc (fin t (suc p))) is in omega arith

module _ {Note : Type 0} (tables : List Table) (b : Block Note) (x : State) (d : depth b ≤ 8) where
  reach : Reach tables (flat b []) (go 0 [] x) (land (exec tables b 0 x) (fin b 0) [])
  reach = runs tables (flat b []) b 0 [] refl [] x (omega arith) (subst (λ (os : List Opening). Inside os []) (around_none (flat b [])) tt)

  ends : fin b 0 ≡ length (flat b [])
  ends = let f = long b 0 [] in omega arith

  few : reach.turns ≤ most_of each_step b
  few =
      let o = exec tables b 0 x in
      let c1 = reach.counts in
      let c2 = ap (λ s. count s.trace) (land_state o (fin b 0)) in
      let c3 = adds each_step tables b 0 x in
      let c4 = counted (state_in o).trace in
      let c5 = counted x.trace in
      omega arith

  landed : (n : ℕ) → reach.turns ≤ n → steps tables (flat b []) n (go 0 [] x) ≡ land (exec tables b 0 x) (fin b 0) []
  landed n h =
      let code = flat b [] in
      let o = exec tables b 0 x in
      let m = reach.turns in
      let e : n ≡ m + (n - m) = omega arith in
      ap (λ k. steps tables code k (go 0 [] x)) e
      ∙ (split_steps tables code m (n - m) (go 0 [] x)
      ∙ (ap (steps tables code (n - m)) reach.goes ∙ rest tables code (n - m) (land o (fin b 0) []) (land_rest tables code o (fin b 0) (through code b 0 [] refl))))

  -- what is counted on the way is no more than what is counted in the end
  within : (w : Price) (k : ℕ) → weigh w (state_of (steps tables (flat b []) k (go 0 [] x))).trace ≤ most_of w b + weigh w x.trace
  within w k =
      let code = flat b [] in
      let c = go 0 [] x in
      let m = reach.turns in
      let o = exec tables b 0 x in
      let g = steps_grow tables code w m (steps tables code k c) in
      let s : steps tables code (k + m) c ≡ steps tables code m (steps tables code k c) = split_steps tables code k m c in
      let f : weigh w (state_of (steps tables code m (steps tables code k c))).trace ≡ weigh w (state_in o).trace = ap (λ z. weigh w (state_of z).trace) (sym s ∙ landed (k + m) (omega arith)) ∙ ap (λ z. weigh w z.trace) (land_state o (fin b 0)) in
      let h = adds w tables b 0 x in
      omega arith

  pub whole : Whole tables b x
  whole = record {
    turns = reach.turns;
    visits = ap seen reach.goes ∙ sym reach.counts;
    few = few;
    running = reach.running;
    comes = λ n h. landed n h ∙ ap (λ p. land (exec tables b 0 x) p []) ends;
    within = within;
  }

pub runs_end : RunsEnd
runs_end tables b s d = whole tables b s d
