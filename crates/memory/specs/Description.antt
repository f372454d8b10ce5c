-- What a memory is to its user.
use Rattle.std.specs.Prelude.{ℕ, ◌-◌, Bool, List, [], ◌++◌, length}
use Rattle.memory.specs.declared.Access.{Access}

-- what an observer sees of an access: a row of these
abbrev pub Mark : Type 0
Mark = ℕ

-- what one access shows, by its kind, the first cell and the length of its table, and its offset
abbrev pub Shows : Type 0
Shows = Access → ℕ → ℕ → ℕ → List Mark

-- what make and settings fix, beside the number of cells
pub record Rules : Type 0 where
  -- the most marks that the seen list can hold
  pub limit : ℕ
  pub shows : Shows
  -- how many marks one access shows, by its kind and the length of its table
  pub cost : Access → ℕ → ℕ
  -- offsets of one table cannot be told apart by what is shown
  pub hides : Bool

pub record Description : Type 0 where
  pub cells : List ℕ
  -- the marks shown since the list was last empty, in order
  pub seen : List Mark
  pub rules : Rules

-- how many marks there is room for
abbrev pub free : Description → ℕ
free d = d.rules.limit - length d.seen

-- other cells, and more marks seen
abbrev pub marked : Description → List ℕ → List Mark → Description
marked d cells marks = record { cells = cells; seen = d.seen ++ marks; rules = d.rules }

-- no marks seen
abbrev pub cleared : Description → Description
cleared d = record { cells = d.cells; seen = []; rules = d.rules }
