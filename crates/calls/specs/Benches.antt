-- A bench as its user sees it, and what can be asked of it.
use Rattle.std.specs.Prelude.{ℕ, zero, suc, ◌+◌, Bool, List, [], ◌∷◌, replicate, Some, None, Option, is_none, nat_le, nat_lt}
use Rattle.instructions.specs.declared.Instruction.{Instruction}
use Rattle.program.specs.declared.header.Header.{Header}
use Rattle.program.specs.declared.header.Kind.TheVariants.{Converted}
use Rattle.program.specs.declared.header.Table.{Table}
use Rattle.program.specs.Headers.{first_cell}
use Rattle.memory.specs.declared.Access.{Access}
use Rattle.memory.specs.Description.{Mark, Description, Rules, free, cleared}
use Rattle.machine.specs.declared.visit.Visit.{Visit}
use Rattle.machine.specs.States.{State, held}
use Rattle.machine.specs.Machine.{length_of, Conf, state_of}
use Rattle.labels.specs.Sets.{bits, secret_tables}
use Rattle.counting.specs.Counting.{most_steps, most_marks}
use Rattle.run.specs.Run.{visits_of, marks_of, finish}
use Rattle.calls.specs.declared.Ending.{Ending}

-- a program: its header and its instructions
pub record Seated : Type 0 where
  pub header : Header
  pub code : List Instruction

abbrev pub seat : Header → List Instruction → Seated
seat h code = record { header = h; code = code }

pub record Bench : Type 0 where
  -- cells, marks seen, and the rules of make and settings
  pub memory : Description
  -- the converted program
  pub seated : Option Seated
  -- registers 0 to 15 as a go begins
  pub entry : List ℕ
  -- what the last accepted go left in registers
  pub last : Option Ending

abbrev pub bench : Description → Option Seated → List ℕ → Option Ending → Bench
bench d s entry last = record { memory = d; seated = s; entry = entry; last = last }

-- a bench as it is made over a memory: no marks seen, no program, entry registers 0
abbrev pub new : Description → Bench
new d = bench (cleared d) None (replicate 16 0) None

-- no tables and no instructions
abbrev pub blank : Seated
blank = seat (record { kind = Converted; tables = []; used = 0; count = 0; secret_entry = 0 }) []

abbrev pub or_blank : Option Seated → Seated
or_blank None = blank
or_blank (Some s) = s

-- the first n words of f, from word i on
abbrev pub words_from : ℕ → ℕ → (ℕ → ℕ) → List ℕ
words_from i zero f = []
words_from i (suc n) f = f i ∷ words_from (suc i) n f

abbrev pub words : ℕ → (ℕ → ℕ) → List ℕ
words n f = words_from 0 n f

-- what a run of a program from these entry registers and cells comes to
abbrev pub comes : Seated → List ℕ → List ℕ → Conf
comes s entry cells = finish s.header.tables s.code entry cells

-- registers 0 to 15 of these, and what register 24 is to say
abbrev pub ending_of : (ℕ → ℕ) → ℕ → Ending
ending_of registers fault = record { registers = words 16 registers; fault = fault }

-- registers 0 to 15 and register 24 of a state
abbrev pub ending : State → Ending
ending x = ending_of x.registers (x.registers 24)

abbrev pub most_steps_of : Seated → ℕ
most_steps_of s = most_steps s.code

abbrev pub most_marks_of : Rules → Seated → ℕ
most_marks_of rules s = most_marks rules.cost s.header.tables s.code

-- The program seated; where there is none, one without tables.
abbrev pub program : Bench → Seated
program b = or_blank b.seated

abbrev pub tables : Bench → List Table
tables b = (program b).header.tables

abbrev pub none_seated : Bench → Bool
none_seated b = is_none b.seated

abbrev pub no_such_table : Bench → ℕ → Bool
no_such_table b t = nat_le (program b).header.used t

abbrev pub len : Bench → ℕ → ℕ
len b t = length_of (tables b) t

abbrev pub base : Bench → ℕ → ℕ
base b t = first_cell (tables b) t

abbrev pub secret_table : Bench → ℕ → Bool
secret_table b t = secret_tables (tables b) t

abbrev pub secret_register : Bench → ℕ → Bool
secret_register b r = bits (program b).header.secret_entry r

-- the index is not below the table's length
abbrev pub outside : Bench → ℕ → ℕ → Bool
outside b t i = nat_le (len b t) i

-- an access to the table costs more marks than are free
abbrev pub dear : Access → Bench → ℕ → Bool
dear access b t = nat_lt (free b.memory) (b.memory.rules.cost access (len b t))

-- cell i of table t
abbrev pub cell_at : Bench → ℕ → ℕ → ℕ
cell_at b t i = held b.memory.cells (base b t + i)

-- where a go comes to, and what it then has visited and shown
abbrev pub gone : Bench → State
gone b = state_of (comes (program b) b.entry b.memory.cells)

abbrev pub new_visits : Bench → List Visit
new_visits b = visits_of (gone b).trace

abbrev pub new_marks : Bench → List Mark
new_marks b = marks_of (tables b) b.memory.rules.shows (gone b).trace
