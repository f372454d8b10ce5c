-- What an access answers, and what it leaves.
use Rattle.std.specs.Prelude.{ℕ, ◌+◌, Bool, ◌&&◌, length, Some, None, Ok, Err, Option, Result, nat_le, nat_lt, slice_index, slice_set}
use Rattle.program.specs.declared.refusal.Refusal.{Refusal}
use Rattle.program.specs.declared.refusal.Reason.TheVariants.{OutsideTable, NoRoomForMarks}
use Rattle.program.specs.Refusals.{unless, or_else}
use Rattle.memory.specs.declared.Access.{Access}
use Rattle.memory.specs.declared.Access.TheVariants.{Read, Write}
use Rattle.memory.specs.Description.{Description, free, marked}

-- the offset lies in the table, and the table within so many cells
abbrev pub inside : ℕ → ℕ → ℕ → ℕ → Bool
inside size base len off = nat_lt off len && nat_le (base + len) size

-- why an access is denied: the first that applies, among so many cells, at this cost and with this
-- room for marks
unfoldable pub denial : ℕ → ℕ → ℕ → ℕ → ℕ → ℕ → Option Refusal
denial size base len off cost room =
    or_else (unless (inside size base len off) OutsideTable 0) (unless (nat_le cost room) NoRoomForMarks 0)

abbrev pub denied : Description → Access → ℕ → ℕ → ℕ → Option Refusal
denied d access base len off = denial (length d.cells) base len off (d.rules.cost access len) (free d)

-- what is answered where something may be denied
abbrev pub answered : {X : Type 0} → Option Refusal → X → Result X Refusal
answered None x = Ok x
answered (Some why) x = Err why

-- what is left: the same as before where something was denied
abbrev pub left : {X : Type 0} → Option Refusal → X → X → X
left None before after = after
left (Some why) before after = before

-- a read answers the cell; both kinds append what they show; a write sets that cell only
abbrev pub read_answer : Description → ℕ → ℕ → ℕ → Result ℕ Refusal
read_answer d base len off = answered (denied d Read base len off) (slice_index d.cells (base + off))

abbrev pub read_after : Description → ℕ → ℕ → ℕ → Description
read_after d base len off =
    left (denied d Read base len off) d (marked d d.cells (d.rules.shows Read base len off))

abbrev pub write_answer : Description → ℕ → ℕ → ℕ → Result (Unit {0}) Refusal
write_answer d base len off = answered (denied d Write base len off) tt

abbrev pub write_after : Description → ℕ → ℕ → ℕ → ℕ → Description
write_after d base len off word =
    left (denied d Write base len off) d
    (marked d (slice_set d.cells (base + off) word) (d.rules.shows Write base len off))
