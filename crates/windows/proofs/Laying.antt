-- Windows, one table after another.
use Rattle.std.proofs.Common.{ℕ, ◌+◌, ◌<◌, ◌≤◌, List, length, arith}
use Rattle.std.proofs.lemmas.List.Sums.{sum_by_more, sum_by-take-le}
use Rattle.program.specs.declared.header.Table.{Table}
use Rattle.program.specs.Headers.{no_table, cells_of, first_cell}
use Rattle.machine.specs.Machine.{length_of}

-- each table lies within the cells of all
pub within_all : (ts : List Table) (t : ℕ) → t < length ts → first_cell ts t + length_of ts t ≤ cells_of ts
within_all ts t h =
    let lengths : Table → ℕ = λ x. x.length in
    omega (arith, sum_by_more lengths ts t no_table h, sum_by-take-le lengths ts (t + 1))
