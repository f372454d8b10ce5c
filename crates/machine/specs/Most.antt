-- The most that a run can count: a sum over nested blocks.
use Rattle.std.specs.Prelude.{ℕ, ◌+◌, ◌*◌, max, List, [], ◌∷◌}
use Rattle.instructions.specs.declared.Op.{Op}
use Rattle.instructions.specs.declared.Op.TheVariants.{Set, Pick, Load, Store}
use Rattle.program.specs.Blocks.{Block, done, one, if_then, if_else, loop}
use Rattle.machine.specs.States.{Event, visit, reads, writes}

-- what is counted: a step, a read of a table, a write of a table
pub record Price : Type 0 where
  pub step : ℕ
  pub read : ℕ → ℕ
  pub write : ℕ → ℕ

-- steps alone are counted
abbrev pub each_step : Price
each_step = record { step = 1; read = λ t. 0; write = λ t. 0 }

module _ (w : Price) where
  -- what a trace counts
  abbrev pub weigh : List Event → ℕ
  weigh [] = 0
  weigh (visit p c ∷ t) = w.step + weigh t
  weigh (reads p b i ∷ t) = w.read b + weigh t
  weigh (writes p b i ∷ t) = w.write b + weigh t

  -- what an op counts
  abbrev pub price : Op → ℕ
  price (Set d v) = w.step
  price (Pick d a b) = w.step
  price (Load d a b) = w.step + w.read b
  price (Store d a b) = w.step + w.write b

  -- the most that a row of instructions counts: the two steps of an if and the larger arm, an else
  -- being a step of the arm before it; the step of a repeat, and as often as it may go round its
  -- body with the step of its again
  abbrev pub most_of : {Note : Type 0} → Block Note → ℕ
  most_of done = 0
  most_of (one op b) = price op + most_of b
  most_of (if_then n a t b) = ((w.step + w.step) + most_of t) + most_of b
  most_of (if_else n a t e b) = ((w.step + w.step) + max (most_of t + w.step) (most_of e)) + most_of b
  most_of (loop a k t b) = (w.step + k * (most_of t + w.step)) + most_of b
