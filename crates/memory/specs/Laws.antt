-- What every memory keeps.
use Rattle.std.specs.Prelude.{◌≡◌, ℕ, ◌+◌, ◌<◌, ◌≤◌, true, length}
use Rattle.memory.specs.declared.Access.{Access}
use Rattle.program.specs.Hold.{hold}
use Rattle.memory.specs.Description.{Description}

-- an offset below the length of a table within the cells
pub record Within (d : Description) (base len off : ℕ) : Type 0 where
  pub below : off < len
  pub fits : base + len ≤ length d.cells

-- The rules take no cells, so what an access shows never depends on what the cells hold. What it
-- shows is as long as its cost says, and not empty; where the memory hides, any two offsets of one
-- table show the same.
pub record Lawful (d : Description) : Type 0 where
  pub limited : d.rules.limit ≤ 1000000
  pub priced : (k : Access) (base len off : ℕ) → Within d base len off → hold (length (d.rules.shows k base len off)) ≡ d.rules.cost k len
  pub shown : (k : Access) (base len off : ℕ) → Within d base len off → 1 ≤ d.rules.cost k len
  pub alike : d.rules.hides ≡ true → (k : Access) (base len off other : ℕ) → Within d base len off → Within d base len other → d.rules.shows k base len off ≡ d.rules.shows k base len other

-- what make and settings fix is the same in both
pub record Settled (before after : Description) : Type 0 where
  pub size : length after.cells ≡ length before.cells
  pub rules : after.rules ≡ before.rules
