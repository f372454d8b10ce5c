-- Tables as windows of cells.
use Rattle.std.specs.Prelude.{◌≡◌, ℕ, ◌<◌, List, slice_index_or}
use Rattle.program.specs.declared.header.Table.{Table}
use Rattle.program.specs.Headers.{first_cell}
use Rattle.machine.specs.Machine.{length_of}
use Rattle.memory.specs.declared.window.Window.{Window}

-- no table
abbrev pub no_window : Window
no_window = record { first = 0; length = 0 }

-- the window of table t
abbrev pub window_of : List Table → ℕ → Window
window_of tables t = record { first = first_cell tables t; length = length_of tables t }

-- these are the windows of the eight tables
abbrev pub Laid : List Table → List Window → Type 0
Laid tables ws = (t : ℕ) → t < 8 → slice_index_or ws t no_window ≡ window_of tables t
