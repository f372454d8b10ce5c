-- Laws of whole runs.
use Rattle.std.specs.Prelude.{◌≡◌, ℕ, suc, ◌+◌, ◌<◌, ◌≤◌, List, [], ◌∷◌, length, drop}
use Rattle.instructions.specs.declared.Instruction.{Instruction}
use Rattle.instructions.specs.declared.Instruction.TheVariants.{Do, If, Else, End, Repeat, Again}
use Rattle.program.specs.declared.header.Table.{Table}
use Rattle.program.specs.declared.opening.Opening.{Opening}
use Rattle.program.specs.declared.opening.Opening.TheVariants.{Then, Otherwise, Loop}
use Rattle.program.specs.Openings.{around}
use Rattle.program.specs.Blocks.{Block, flat, depth}
use Rattle.machine.specs.declared.repeat.OpenRepeat.{OpenRepeat}
use Rattle.machine.specs.States.{State}
use Rattle.machine.specs.Machine.{Conf, go, stop, state_of, land, steps, count}
use Rattle.machine.specs.Nested.{exec}
use Rattle.machine.specs.Most.{Price, each_step, weigh, most_of}

-- the open repeats are the repeats among these openings, one for one, and each has rounds left
abbrev pub Inside : List Opening → List OpenRepeat → Type 0
Inside [] [] = Unit {0}
Inside [] (f ∷ fs) = ⊥
Inside (Then q a ∷ os) fs = Inside os fs
Inside (Otherwise q a m ∷ os) fs = Inside os fs
Inside (Loop q ∷ os) [] = ⊥
Inside (Loop q ∷ os) (f ∷ fs) = (f.start ≡ suc q) × (0 < f.left) × Inside os fs

-- a step can be taken in front of these instructions: there is one, an again is inside a repeat, and
-- a repeat finds at most seven open
abbrev pub Able : List Instruction → List OpenRepeat → Type 0
Able [] fs = ⊥
Able (Do op ∷ is) fs = Unit {0}
Able (If a ∷ is) fs = Unit {0}
Able (Else ∷ is) fs = Unit {0}
Able (End ∷ is) fs = Unit {0}
Able (Repeat a k ∷ is) fs = length fs < 8
Able (Again ∷ is) [] = ⊥
Able (Again ∷ is) (f ∷ fs) = Unit {0}

-- the run is not over: a step can be taken, and what is open is what stands open around the place
abbrev pub Running : List Instruction → Conf → Type 0
Running code (go p fs s) = Able (drop p code) fs × Inside (around code p) fs
Running code (stop p s) = ⊥

-- the run is over: at the end of the code with no repeat open, or at a fault
abbrev pub Over : List Instruction → Conf → Type 0
Over code (go p fs s) = (p ≡ length code) × (fs ≡ [])
Over code (stop p s) = Unit {0}

-- every run of the code is over after n steps
abbrev pub OverBy : List Instruction → ℕ → Type 0
OverBy code n = (tables : List Table) (s : State) → Over code (steps tables code n (go 0 [] s))

-- no run of the code ever counts more than n
abbrev pub CountsBy : Price → List Instruction → ℕ → Type 0
CountsBy w code n = (tables : List Table) (s : State) (k : ℕ) → weigh w (state_of (steps tables code k (go 0 [] s))).trace ≤ n + weigh w s.trace

-- the whole run of a block, written out, from place 0
pub record Whole {Note : Type 0} (tables : List Table) (b : Block Note) (s : State) : Type 0 where
  -- how many steps it takes, each of them one visit
  pub turns : ℕ
  pub visits : count (state_of (steps tables (flat b []) turns (go 0 [] s))).trace ≡ turns + count s.trace
  -- no more than its most steps
  pub few : turns ≤ most_of each_step b
  -- until then it is not over, and rounds are taken only from an open repeat
  pub running : (k : ℕ) → k < turns → Running (flat b []) (steps tables (flat b []) k (go 0 [] s))
  -- it comes to what the nested blocks come to, at its end or at a fault, and stays there
  pub comes : (n : ℕ) → turns ≤ n → steps tables (flat b []) n (go 0 [] s) ≡ land (exec tables b 0 s) (length (flat b [])) []
  -- whatever is counted, steps or marks, it never counts more than the most
  pub within : (w : Price) (k : ℕ) → weigh w (state_of (steps tables (flat b []) k (go 0 [] s))).trace ≤ most_of w b + weigh w s.trace

-- every run of nested blocks, at most eight deep, ends
abbrev pub RunsEnd : Type 0
RunsEnd = (tables : List Table) (b : Block (Unit {0})) (s : State) → depth b ≤ 8 → Whole tables b s
