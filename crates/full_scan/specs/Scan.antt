-- A layer that touches every offset of a table at each access.
use Rattle.std.specs.Prelude.{ℕ, zero, suc, ◌+◌, ◌*◌, true, List, [], ◌++◌}
use Rattle.memory.specs.declared.Access.{Access}
use Rattle.memory.specs.declared.Access.TheVariants.{Read, Write}
use Rattle.program.specs.Hold.{hold}
use Rattle.memory.specs.Description.{Mark, Shows, Rules, Description}

-- what the turn at one offset shows: a read below, and for a write a write after it
abbrev pub turn : Shows → Access → ℕ → ℕ → ℕ → List Mark
turn shows Read base len off = shows Read base len off
turn shows Write base len off = shows Read base len off ++ shows Write base len off

-- the first turns, from offset 0
abbrev pub turns : Shows → Access → ℕ → ℕ → ℕ → List Mark
turns shows k base len zero = []
turns shows k base len (suc n) = turns shows k base len n ++ turn shows k base len n

abbrev pub turn_cost : (Access → ℕ → ℕ) → Access → ℕ → ℕ
turn_cost cost Read len = cost Read len
turn_cost cost Write len = cost Read len + cost Write len

abbrev pub scan_rules : Rules → Rules
scan_rules r = record { limit = r.limit; shows = λ k base len off. turns r.shows k base len len; cost = λ k len. hold (len * turn_cost r.cost k len); hides = true }

abbrev pub scan_over : Description → Description
scan_over d = record { cells = d.cells; seen = d.seen; rules = scan_rules d.rules }
