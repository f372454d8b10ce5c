-- Where tables lie: no two share a cell.
use Rattle.std.specs.Prelude.{◌≡◌, ℕ, ◌+◌, ◌<◌, List}
use Rattle.program.specs.declared.header.Table.{Table}
use Rattle.program.specs.Headers.{cells_of, first_cell}
use Rattle.machine.specs.Machine.{length_of}

-- a cell of a table is one of the cells of all tables
abbrev pub TablesWithin : Type 0
TablesWithin = (tables : List Table) (t i : ℕ) → i < length_of tables t → first_cell tables t + i < cells_of tables

-- a cell that lies in two tables is one of one table
abbrev pub TablesApart : Type 0
TablesApart =
    (tables : List Table) (t u i j : ℕ) → i < length_of tables t → j < length_of tables u
    → first_cell tables t + i ≡ first_cell tables u + j → t ≡ u
