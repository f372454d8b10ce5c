-- The machine: one step from where a run is, and the run.
use Rattle.std.specs.Prelude.{ℕ, zero, suc, pred, ◌+◌, ◌-◌, min, Bool, true, false, List, [], ◌∷◌, drop, nat_lt, slice_index_or}
use Rattle.instructions.specs.declared.Op.{Op}
use Rattle.instructions.specs.declared.Op.TheVariants.{Set, Pick, Load, Store}
use Rattle.instructions.specs.declared.Instruction.{Instruction}
use Rattle.instructions.specs.declared.Instruction.TheVariants.{Do, If, Else, End, Repeat, Again}
use Rattle.program.specs.declared.header.Table.{Table}
use Rattle.program.specs.Headers.{no_table, first_cell}
use Rattle.machine.specs.declared.visit.Choice.TheVariants.{Onward, Inward, Past, Fault}
use Rattle.machine.specs.declared.repeat.OpenRepeat.{OpenRepeat}
use Rattle.machine.specs.Words.{value_of}
use Rattle.machine.specs.States.{Event, visit, reads, writes, State, held, noted, visited, with_register, with_cell}

-- what a part of a run comes to: it goes on, or stops with a fault at a place
pub data Out : Type 0 where
  fine : State → Out
  fault : ℕ → State → Out

-- x where the word is not 0, and otherwise y
abbrev pub if_not0 : {X : Type 0} → ℕ → X → X → X
if_not0 zero x y = y
if_not0 (suc n) x y = x

-- the length of table t
abbrev pub length_of : List Table → ℕ → ℕ
length_of tables t = (slice_index_or tables t no_table).length

-- a load at place p of offset i of table t, cell c, into register d, where the offset is in range or
-- not: onward after an access, or a fault
abbrev pub loads : Bool → ℕ → ℕ → ℕ → ℕ → ℕ → State → Out
loads true p d t i c s = fine (with_register d (s.cells c) (noted (reads p t i) (visited p Onward s)))
loads false p d t i c s = fault p (visited p Fault s)

-- a store of register d, likewise
abbrev pub stores : Bool → ℕ → ℕ → ℕ → ℕ → ℕ → State → Out
stores true p d t i c s = fine (with_cell c (s.registers d) (noted (writes p t i) (visited p Onward s)))
stores false p d t i c s = fault p (visited p Fault s)

-- the op at place p
abbrev pub does : List Table → ℕ → Op → State → Out
does tables p (Set d v) s = fine (with_register d (value_of v s.registers) (visited p Onward s))
does tables p (Pick d a b) s = fine (with_register d (if_not0 (s.registers a) (s.registers b) (s.registers d)) (visited p Onward s))
does tables p (Load d a t) s = loads (nat_lt (s.registers a) (length_of tables t)) p d t (s.registers a) (first_cell tables t + s.registers a) s
does tables p (Store d a t) s = stores (nat_lt (s.registers a) (length_of tables t)) p d t (s.registers a) (first_cell tables t + s.registers a) s

-- where a run is: at a place, inside these open repeats, innermost first; or stopped at a place
pub data Conf : Type 0 where
  go : ℕ → List OpenRepeat → State → Conf
  stop : ℕ → State → Conf

-- the state there
abbrev pub state_of : Conf → State
state_of (go p fs s) = s
state_of (stop p s) = s

-- a repeat whose body begins at q, with m rounds left
abbrev pub open_at : ℕ → ℕ → OpenRepeat
open_at q m = record { start = q; left = m }

-- one round less
abbrev pub lowered : OpenRepeat → OpenRepeat
lowered f = open_at f.start (f.left - 1)

-- the place of the bracket that closes the d-th opening around place p, 0 the innermost; with
-- `elses`, an else of that opening counts as such
abbrev pub closing : Bool → ℕ → ℕ → List Instruction → ℕ
closing elses d p [] = p
closing elses d p (Do op ∷ is) = closing elses d (suc p) is
closing elses d p (If a ∷ is) = closing elses (suc d) (suc p) is
closing true zero p (Else ∷ is) = p
closing false zero p (Else ∷ is) = closing false zero (suc p) is
closing elses (suc d) p (Else ∷ is) = closing elses (suc d) (suc p) is
closing elses zero p (End ∷ is) = p
closing elses (suc d) p (End ∷ is) = closing elses d (suc p) is
closing elses d p (Repeat a k ∷ is) = closing elses (suc d) (suc p) is
closing elses zero p (Again ∷ is) = p
closing elses (suc d) p (Again ∷ is) = closing elses d (suc p) is

-- the place after an else at p, and p where there is none
abbrev pub after_else : List Instruction → ℕ → ℕ
after_else [] p = p
after_else (Do op ∷ is) p = p
after_else (If a ∷ is) p = p
after_else (Else ∷ is) p = suc p
after_else (End ∷ is) p = p
after_else (Repeat a k ∷ is) p = p
after_else (Again ∷ is) p = p

-- on to place p, unless there was a fault
abbrev pub land : Out → ℕ → List OpenRepeat → Conf
land (fine s) p fs = go p fs s
land (fault q s) p fs = stop q s

-- a repeat at p with so many rounds, in front of the instructions is: past its again, or its first
-- round
abbrev pub begin : ℕ → ℕ → List Instruction → List OpenRepeat → State → Conf
begin zero p is fs s = go (suc (closing false zero (suc p) is)) fs (visited p Past s)
begin (suc m) p is fs s = go (suc p) (open_at (suc p) (suc m) ∷ fs) (visited p Inward s)

-- an again at p, with so many rounds to come of a repeat whose body begins at q
abbrev pub goes_on : ℕ → ℕ → List OpenRepeat → ℕ → State → Conf
goes_on zero q fs p s = go (suc p) fs (visited p Past s)
goes_on (suc m) q fs p s = go q (open_at q (suc m) ∷ fs) (visited p Inward s)

-- an again at p lowers the rounds left of the innermost open repeat by one (there always is one)
abbrev pub back : List OpenRepeat → ℕ → State → Conf
back [] p s = stop p s
back (f ∷ fs) p s = goes_on (pred f.left) f.start fs p s

-- where the d-th if around place p of the code, 0 the innermost, goes when its register is 0: to the
-- place after its else, or to its end
abbrev pub other : List Instruction → ℕ → ℕ → List Instruction → ℕ
other code d p is = after_else (drop (closing true d p is) code) (closing true d p is)

module _ (tables : List Table) (code : List Instruction) where
  -- an if at p, by its register's word
  abbrev pub test : ℕ → ℕ → List Instruction → List OpenRepeat → State → Conf
  test zero p is fs s = go (other code zero (suc p) is) fs (visited p Past s)
  test (suc n) p is fs s = go (suc p) fs (visited p Inward s)

  -- one step at p, where these instructions are left
  abbrev pub step : List Instruction → ℕ → List OpenRepeat → State → Conf
  step [] p fs s = go p fs s
  step (Do op ∷ is) p fs s = land (does tables p op s) (suc p) fs
  step (If a ∷ is) p fs s = test (s.registers a) p is fs s
  step (Else ∷ is) p fs s = go (closing false zero (suc p) is) fs (visited p Onward s)
  step (End ∷ is) p fs s = go (suc p) fs (visited p Onward s)
  step (Repeat a k ∷ is) p fs s = begin (min (s.registers a) k) p is fs s
  step (Again ∷ is) p fs s = back fs p s

  -- one step, from anywhere
  abbrev pub next : Conf → Conf
  next (go p fs s) = step (drop p code) p fs s
  next (stop p s) = stop p s

  -- so many steps
  abbrev pub steps : ℕ → Conf → Conf
  steps zero c = c
  steps (suc n) c = steps n (next c)

-- a run begins with the entry registers, all others 0, and the memory's cells
abbrev pub first : List ℕ → List ℕ → State
first entry cells = record { registers = held entry; cells = held cells; trace = [] }

-- at place 0, inside no repeat
abbrev pub start : List ℕ → List ℕ → Conf
start entry cells = go 0 [] (first entry cells)

-- how many steps a trace has
abbrev pub count : List Event → ℕ
count [] = 0
count (visit p c ∷ t) = suc (count t)
count (reads p b i ∷ t) = count t
count (writes p b i ∷ t) = count t
