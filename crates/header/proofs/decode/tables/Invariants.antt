use Rattle.std.proofs.Common.{◌≡◌, ℕ, ◌<◌, true, length, get_or}
use Rattle.program.specs.declared.header.Table.{Table}
use Rattle.header.specs.Layout.{entry_good, table_at}
use Rattle.header.proofs.decode.tables.Given as goal

abbrev pub invariant-loop-i : goal.invariant-loop-i
invariant-loop-i l =
    (length l.tables ≡ 8)
    × ((k : ℕ) → k < l.i → entry_good l.bytes l.used k ≡ true)
    × ((k : ℕ) (d : Table) → k < l.i → get_or l.tables k d ≡ table_at l.bytes k)
