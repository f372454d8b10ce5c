-- The routines of the cases, over one table of four cells, and what running and converting them means here.
use Rattle.std.specs.Prelude.{◌≡◌, ℕ, ◌≤◌, Bool, List, [], ◌∷◌, length, replicate, Some, None}
use Rattle.instructions.specs.declared.Value.TheVariants.{Const, Move}
use Rattle.instructions.specs.declared.Op.TheVariants.{Set, Load, Store}
use Rattle.instructions.specs.declared.Instruction.{Instruction}
use Rattle.instructions.specs.declared.Instruction.TheVariants.{Do, If, Else, End, Repeat, Again}
use Rattle.program.specs.declared.header.Header.{Header}
use Rattle.program.specs.declared.header.Kind.TheVariants.{Source}
use Rattle.program.specs.declared.header.Table.{Table}
use Rattle.program.specs.declared.refusal.Reason.{Reason}
use Rattle.program.specs.Headers.{no_table}
use Rattle.program.specs.Refusals.{refusal}
use Rattle.labels.specs.Theorems.{with_const, without_const}
use Rattle.memory.specs.Description.{Mark, Description}
use Rattle.machine.specs.States.{State}
use Rattle.machine.specs.Machine.{state_of}
use Rattle.converter.specs.Converting.{convert_refusal}
use Rattle.run.specs.Run.{visits_of, marks_of, finish}
use Rattle.by_hand.specs.declared.routine.Routine.{Routine}
use Rattle.by_hand.specs.declared.routine.Routine.TheVariants.{Choose, Lookup, Update, ArmWithConst, ArmWithoutConst, Walk, Rounds, TooManyRounds}

-- if 1; const 0,7; else; const 0,9; end
abbrev pub choose : List Instruction
choose = If 1 ∷ Do (Set 0 (Const 7)) ∷ Else ∷ Do (Set 0 (Const 9)) ∷ End ∷ []

-- load 0,1,0
abbrev pub lookup : List Instruction
lookup = Do (Load 0 1 0) ∷ []

-- store 0,1,0
abbrev pub update : List Instruction
update = Do (Store 0 1 0) ∷ []

-- repeat 1,3; load 0,2,0; move 2,3; again
abbrev pub walk : List Instruction
walk = Repeat 1 3 ∷ Do (Load 0 2 0) ∷ Do (Set 2 (Move 3)) ∷ Again ∷ []

-- repeat 1,999; repeat 1,999; again; again
abbrev pub rounds : List Instruction
rounds = Repeat 1 999 ∷ Repeat 1 999 ∷ Again ∷ Again ∷ []

-- repeat 1,999; repeat 1,1000; again; again
abbrev pub too_many_rounds : List Instruction
too_many_rounds = Repeat 1 999 ∷ Repeat 1 1000 ∷ Again ∷ Again ∷ []

-- the instructions of each routine; those with two arms are the ones that labels are worked out of
abbrev pub instructions : Routine → List Instruction
instructions Choose = choose
instructions Lookup = lookup
instructions Update = update
instructions ArmWithConst = with_const
instructions ArmWithoutConst = without_const
instructions Walk = walk
instructions Rounds = rounds
instructions TooManyRounds = too_many_rounds

-- table 0 has four cells, secret or not; no other table is used
abbrev pub four_cells : Bool → List Table
four_cells secret = record { length = 4; secret = secret } ∷ no_table ∷ no_table ∷ no_table ∷ no_table ∷ no_table ∷ no_table ∷ no_table ∷ []

-- the header of such a source, with bit i of `entry` where entry register i is secret
abbrev pub source : Bool → ℕ → List Instruction → Header
source secret entry code = record { kind = Source; tables = four_cells secret; used = 1; count = length code; secret_entry = entry }

-- the entry registers: register 1 has this word, and the others have 0
abbrev pub entry : ℕ → List ℕ
entry word = 0 ∷ word ∷ replicate 14 0

-- the state after a whole run with such entry registers
abbrev pub after : Bool → List Instruction → ℕ → Description → State
after secret code word d = state_of (finish (four_cells secret) code (entry word) d.cells)

-- how many steps it makes
abbrev pub steps_of : Bool → List Instruction → ℕ → Description → ℕ
steps_of secret code word d = length (visits_of (after secret code word d).trace)

-- the marks that it leaves, oldest first
abbrev pub shown : Bool → List Instruction → ℕ → Description → List Mark
shown secret code word d = marks_of (four_cells secret) d.rules.shows (after secret code word d).trace

-- converted, for a memory that hides or does not, into every list with room for so many instructions
abbrev pub Accepts : Header → List Instruction → Bool → ℕ → Type 0
Accepts h code hides long = (room : ℕ) → long ≤ room → convert_refusal h code hides room ≡ None

-- not converted, whatever room there is: for this reason, at this place
abbrev pub Refuses : Header → List Instruction → Bool → Reason → ℕ → Type 0
Refuses h code hides why p = (room : ℕ) → convert_refusal h code hides room ≡ Some (refusal why p)
