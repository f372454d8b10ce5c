-- How a run moves.
use Rattle.std.specs.Prelude.{◌≡◌, List, [], ◌∷◌, ℕ}
use Rattle.machine.specs.declared.repeat.OpenRepeat.{OpenRepeat}
use Rattle.machine.specs.declared.visit.Choice.{Choice}
use Rattle.machine.specs.Machine.{open_at}
use Rattle.repeats.specs.declared.Move.{Move}

-- the innermost of the open repeats
abbrev pub innermost : List OpenRepeat → OpenRepeat
innermost [] = open_at 0 0
innermost (f ∷ fs) = f

-- the run goes to place p, and its visit has choice c
abbrev pub Goes : ℕ → Choice → Move → Type 0
Goes p c m = (m.place ≡ p) × (m.choice ≡ c)
