-- Two memories that an observer cannot tell apart, and operations that leave them so.
use Rattle.std.specs.Prelude.{◌≡◌, ℕ, ◌<◌, length, Some, None, Option}
use Rattle.memory.specs.Description.{Description}
use Rattle.memory.specs.declared.Access.{Access}
use Rattle.memory.specs.declared.Access.TheVariants.{Read, Write}
use Rattle.memory.specs.declared.window.Window.{Window}
use Rattle.piles.specs.declared.operations.Operation.{Operation}
use Rattle.piles.specs.declared.operations.Operation.TheVariants.{Read as ReadAt, Write as WriteAt, Clear}

-- one make and size, and the same seen; what the cells hold may differ
pub record SameButCells (one other : Description) : Type 0 where
  pub size : length one.cells ≡ length other.cells
  pub seen : one.seen ≡ other.seen
  pub rules : one.rules ≡ other.rules

-- an access without its word: its kind, its table and its offset
pub record Touch : Type 0 where
  pub kind : Access
  pub table : Window
  pub off : ℕ

abbrev pub touched : Operation → Option Touch
touched (ReadAt table off) = Some (record { kind = Read; table = table; off = off })
touched (WriteAt table off word) = Some (record { kind = Write; table = table; off = off })
touched Clear = None

-- two accesses of one kind to one table, at any offsets in it
pub record Beside (first second : Operation) : Type 0 where
  pub kind : Access
  pub table : Window
  pub i : ℕ
  pub j : ℕ
  pub at_i : touched first ≡ Some (record { kind = kind; table = table; off = i })
  pub at_j : touched second ≡ Some (record { kind = kind; table = table; off = j })
  pub i_below : i < table.length
  pub j_below : j < table.length
