-- What the whole run says of each step of it.
use Rattle.std.proofs.Common.{◌≡◌, ℕ, ◌+◌, ◌<◌, ◌≤◌, ◌⊎◌, List, [], length, drop, sym, refl, ◌∙◌, subst, inl, inr, ⊎_elim, arith}
use Rattle.std.proofs.lemmas.Bool.{cases_lt}
use Rattle.std.proofs.lemmas.List.{drop_all}
use Rattle.instructions.specs.declared.Instruction.{Instruction}
use Rattle.program.specs.declared.header.Table.{Table}
use Rattle.program.specs.Blocks.{Block, flat, depth}
use Rattle.machine.specs.declared.repeat.OpenRepeat.{OpenRepeat}
use Rattle.machine.specs.States.{State}
use Rattle.machine.specs.Machine.{Out, fine, fault, Conf, go, stop, state_of, land, next, steps}
use Rattle.machine.specs.Nested.{exec}
use Rattle.machine.specs.Most.{Price, each_step, weigh, most_of}
use Rattle.execution.specs.Runs.{Able, Running, Over, OverBy, CountsBy}
use Rattle.execution.proofs.ByPlaces.{split_steps}
use Rattle.execution.proofs.Whole.{whole}

pub steps_more : (tables : List Table) (code : List Instruction) (n : ℕ) (c : Conf) → steps tables code (n + 1) c ≡ next tables code (steps tables code n c)
steps_more tables code n c = split_steps tables code n 1 c

no_go : (p q : ℕ) (fs : List OpenRepeat) (s z : State) → go p fs s ≡ stop q z → ⊥
no_go p q fs s z e = let k : ◌≡◌ {A = ℕ} 0 1 = cc in omega arith

at_end : (o : Out) (n p : ℕ) (fs : List OpenRepeat) (s : State) → go p fs s ≡ land o n [] → p ≡ n
at_end (fine z) n p fs s e = cc
at_end (fault q z) n p fs s e = absurd (no_go p q fs s z e)

pub over_at_end : (code : List Instruction) (p : ℕ) (fs : List OpenRepeat) (s : State) → length code ≤ p → Running code (go p fs s) → ⊥
over_at_end code p fs s h f = subst (λ (l : List Instruction). Able l fs) (drop_all p code h) f.0

-- after k steps the run is not over, or it is, and stays where it is
abbrev Stands : {Note : Type 0} → List Table → List Instruction → Block Note → State → ℕ → Type 0
Stands tables code b x k =
    (Running code (steps tables code k (go 0 [] x)) × (k < most_of each_step b))
    ⊎ ((steps tables code k (go 0 [] x) ≡ land (exec tables b 0 x) (length code) []) × ((n : ℕ) → most_of each_step b ≤ n → steps tables code n (go 0 [] x) ≡ steps tables code k (go 0 [] x)))

stands_flat : {Note : Type 0} (tables : List Table) (b : Block Note) (x : State) (k : ℕ) → depth b ≤ 8 → Stands tables (flat b []) b x k
stands_flat tables b x k d =
    let w = whole tables b x d in
    ⊎_elim (λ (l : k < w.turns). inl (w.running k l, omega (arith, w.few)))
    (λ (l : w.turns ≤ k). inr (w.comes k l, λ n h. w.comes n (omega (arith, w.few)) ∙ sym (w.comes k l)))
    (cases_lt k w.turns)

module _ {Note : Type 0} (tables : List Table) (code : List Instruction) (b : Block Note) (same : flat b [] ≡ code) (d : depth b ≤ 8) (x : State) (k : ℕ) where
  stands : Stands tables code b x k
  stands = subst (λ (l : List Instruction). Stands tables l b x k) same (stands_flat tables b x k d)

  -- before its end a run can take a step more
  pub onward : (p : ℕ) (fs : List OpenRepeat) (s : State) → steps tables code k (go 0 [] x) ≡ go p fs s → p < length code → Able (drop p code) fs × (k < most_of each_step b)
  onward p fs s e h =
      ⊎_elim (λ (l : Running code (steps tables code k (go 0 [] x)) × (k < most_of each_step b)). ((subst (Running code) e l.0).0, l.1))
      (λ l. absurd (let q = at_end (exec tables b 0 x) (length code) p fs s (sym e ∙ l.0) in omega arith))
      stands

  -- where no step can be taken the run is over
  pub finished : (n : ℕ) (c : Conf) → steps tables code k (go 0 [] x) ≡ c → (Running code c → ⊥) → most_of each_step b ≤ n → steps tables code n (go 0 [] x) ≡ c
  finished n c e f h =
      ⊎_elim (λ (l : Running code (steps tables code k (go 0 [] x)) × (k < most_of each_step b)). absurd (f (subst (Running code) e l.0)))
      (λ l. l.1 n h ∙ e)
      stands

  -- what is counted so far
  pub weighs : (w : Price) → weigh w (state_of (steps tables code k (go 0 [] x))).trace ≤ most_of w b + weigh w x.trace
  weighs w = subst (λ (l : List Instruction). weigh w (state_of (steps tables l k (go 0 [] x))).trace ≤ most_of w b + weigh w x.trace) same ((whole tables b x d).within w k)

  -- the nested reading
  pub comes : (n : ℕ) → most_of each_step b ≤ n → steps tables code n (go 0 [] x) ≡ land (exec tables b 0 x) (length code) []
  comes n h = subst (λ (l : List Instruction). steps tables l n (go 0 [] x) ≡ land (exec tables b 0 x) (length l) []) same (let w = whole tables b x d in w.comes n (omega (arith, w.few)))

landed_over : (code : List Instruction) (o : Out) → Over code (land o (length code) [])
landed_over code (fine s) = (refl, refl)
landed_over code (fault q s) = tt

pub over_by : {Note : Type 0} (code : List Instruction) (b : Block Note) → flat b [] ≡ code → depth b ≤ 8 → (n : ℕ) → most_of each_step b ≤ n → OverBy code n
over_by code b same d n h tables s = subst (Over code) (sym (comes tables code b same d s 0 n h)) (landed_over code (exec tables b 0 s))

pub counts_by : {Note : Type 0} (w : Price) (code : List Instruction) (b : Block Note) → flat b [] ≡ code → depth b ≤ 8 → (n : ℕ) → most_of w b ≤ n → CountsBy w code n
counts_by w code b same d n h tables s k = let e = weighs tables code b same d s k w in omega arith
