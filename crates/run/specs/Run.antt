-- What a run answers and leaves.
use Rattle.std.specs.Prelude.{◌≡◌, ℕ, ◌≤◌, List, [], ◌∷◌, ◌++◌, length, drop, Some, None, Ok, Err, Option, Result, nat_le}
use Rattle.instructions.specs.declared.Instruction.{Instruction}
use Rattle.program.specs.declared.header.Table.{Table}
use Rattle.program.specs.declared.refusal.Refusal.{Refusal}
use Rattle.program.specs.declared.refusal.Reason.TheVariants.{TooManySteps, MemoryTooSmall, NoRoomForVisits, NoFreeMarks}
use Rattle.program.specs.Headers.{cells_of, first_cell}
use Rattle.program.specs.Refusals.{unless, or_else}
use Rattle.program.specs.Blocks.{Block, flat}
use Rattle.memory.specs.declared.Access.TheVariants.{Read, Write}
use Rattle.memory.specs.Description.{Mark, Shows, Description, free}
use Rattle.machine.specs.declared.visit.Choice.{Choice}
use Rattle.machine.specs.declared.visit.Visit.{Visit}
use Rattle.machine.specs.States.{Event, visit, reads, writes, held}
use Rattle.machine.specs.Machine.{length_of, Conf, go, stop, state_of, land, steps, first, start}
use Rattle.machine.specs.Nested.{exec}
use Rattle.counting.specs.Counting.{most_steps, most_marks}
use Rattle.run.specs.declared.Outcome.{Outcome}

-- the visit of a place with a choice
abbrev pub visit_at : ℕ → Choice → Visit
visit_at p c = record { place = p; choice = c }

-- an outcome, from its parts
abbrev pub outcome_of : List ℕ → ℕ → ℕ → Option ℕ → Outcome
outcome_of registers steps marks fault = record { registers = registers; steps = steps; marks = marks; fault = fault }

-- the visits of a trace, oldest first
abbrev pub visits_of : List Event → List Visit
visits_of [] = []
visits_of (visit p c ∷ t) = visits_of t ++ (visit_at p c ∷ [])
visits_of (reads p b i ∷ t) = visits_of t
visits_of (writes p b i ∷ t) = visits_of t

-- the marks that the accesses of a trace leave, oldest first
abbrev pub marks_of : List Table → Shows → List Event → List Mark
marks_of tables shows [] = []
marks_of tables shows (visit p c ∷ t) = marks_of tables shows t
marks_of tables shows (reads p b i ∷ t) = marks_of tables shows t ++ shows Read (first_cell tables b) (length_of tables b) i
marks_of tables shows (writes p b i ∷ t) = marks_of tables shows t ++ shows Write (first_cell tables b) (length_of tables b) i

-- the place of a fault, if there was one
abbrev pub fault_of : Conf → Option ℕ
fault_of (go p fs s) = None
fault_of (stop p s) = Some p

-- where a whole run comes to: no run takes more than the most steps
abbrev pub finish : List Table → List Instruction → List ℕ → List ℕ → Conf
finish tables code entry cells = steps tables code (most_steps code) (start entry cells)

-- why a run is refused: the first that applies, with room for so many visits
abbrev pub refusal : List Table → List Instruction → Description → ℕ → Option Refusal
refusal tables code d room =
    or_else (unless (nat_le (most_steps code) 1000000) TooManySteps 0)
    (or_else (unless (nat_le (cells_of tables) (length d.cells)) MemoryTooSmall 0)
    (or_else (unless (nat_le (most_steps code) room) NoRoomForVisits 0)
    (unless (nat_le (most_marks d.rules.cost tables code) (free d)) NoFreeMarks 0)))

-- none applies
pub record Runnable (tables : List Table) (code : List Instruction) (d : Description) (many : ℕ) : Type 0 where
  pub short : most_steps code ≤ 1000000
  pub fits : cells_of tables ≤ length d.cells
  pub room : most_steps code ≤ many
  pub marks : most_marks d.rules.cost tables code ≤ free d

-- what a run that came to c answers, and the memory and the visit list before and after it
pub record Ended (tables : List Table) (code : List Instruction) (c : Conf) (d d' : Description) (vs vs' : List Visit) (o : Outcome) : Type 0 where
  pub registers : held o.registers ≡ (state_of c).registers
  pub wide : length o.registers ≡ 32
  pub fault : o.fault ≡ fault_of c
  -- each step is one visit, and there are at most the most steps
  pub steps : o.steps ≡ length (visits_of (state_of c).trace)
  pub few : o.steps ≤ most_steps code
  -- the visits fill the list from entry 0; later entries stay
  pub visits : vs' ≡ visits_of (state_of c).trace ++ drop o.steps vs
  -- the marks are what the accesses leave, at most the most marks
  pub marks : o.marks ≡ length (marks_of tables d.rules.shows (state_of c).trace)
  pub within : o.marks ≤ most_marks d.rules.cost tables code
  pub seen : d'.seen ≡ d.seen ++ marks_of tables d.rules.shows (state_of c).trace
  pub cells : held d'.cells ≡ (state_of c).cells
  pub size : length d'.cells ≡ length d.cells
  pub rules : d'.rules ≡ d.rules

-- the machine's run, or the first refusal, which changes nothing
abbrev pub Ran : List Table → List Instruction → List ℕ → Description → Description → List Visit → List Visit → Result Outcome Refusal → Type 0
Ran tables code entry d d' vs vs' (Ok o) = (refusal tables code d (length vs) ≡ None) × Ended tables code (finish tables code entry d.cells) d d' vs vs' o
Ran tables code entry d d' vs vs' (Err e) = (refusal tables code d (length vs) ≡ Some e) × (d' ≡ d) × (vs' ≡ vs)

-- what the tests before a run answer
abbrev pub Tested : List Table → List Instruction → Description → ℕ → Result (Unit {0}) Refusal → Type 0
Tested tables code d many (Ok u) = (refusal tables code d many ≡ None) × Runnable tables code d many
Tested tables code d many (Err e) = refusal tables code d many ≡ Some e

-- a program is nested blocks, and a whole run comes to what those come to, at its end or at a fault
abbrev pub ReadNested : List Table → List Instruction → List ℕ → List ℕ → Type 0
ReadNested tables code entry cells = most_steps code ≤ 1000000 → (b : Block (Unit {0})) × (flat b [] ≡ code) × (finish tables code entry cells ≡ land (exec tables b 0 (first entry cells)) (length code) [])
