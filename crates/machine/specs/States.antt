-- What a run changes: registers and cells, as functions from number to word, and its trace.
use Rattle.std.specs.Prelude.{ℕ, cond, List, ◌∷◌, ◌==◌, slice_index}
use Rattle.machine.specs.declared.visit.Choice.{Choice}

-- what is written down: a step with its place and choice; an access with its place, table and offset
pub data Event : Type 0 where
  visit : ℕ → Choice → Event
  reads writes : ℕ → ℕ → ℕ → Event

-- registers, cells, and the trace, newest first
pub record State : Type 0 where
  pub registers : ℕ → ℕ
  pub cells : ℕ → ℕ
  pub trace : List Event

-- a list of words as a function; past its end all are 0
abbrev pub held : List ℕ → ℕ → ℕ
held words x = slice_index words x

-- v at d, and as before elsewhere
abbrev pub changed : (ℕ → ℕ) → ℕ → ℕ → ℕ → ℕ
changed f d v x = cond (x == d) v (f x)

-- one more event
abbrev pub noted : Event → State → State
noted e s = record { registers = s.registers; cells = s.cells; trace = e ∷ s.trace }

-- one more visit, of place p with choice c
abbrev pub visited : ℕ → Choice → State → State
visited p c s = noted (visit p c) s

-- register d gets v
abbrev pub with_register : ℕ → ℕ → State → State
with_register d v s = record { registers = changed s.registers d v; cells = s.cells; trace = s.trace }

-- cell c gets v
abbrev pub with_cell : ℕ → ℕ → State → State
with_cell c v s = record { registers = s.registers; cells = changed s.cells c v; trace = s.trace }
