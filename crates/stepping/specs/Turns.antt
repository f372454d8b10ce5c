-- What one step does to what the code of a run holds.
use Rattle.std.specs.Prelude.{◌≡◌, ℕ, ◌+◌, ◌<◌, ◌≤◌, min, Bool, true, false, cond, List, ◌∷◌, length, ◌==◌, slice_index_or, slice_set}
use Rattle.instructions.specs.declared.Op.{Op}
use Rattle.instructions.specs.declared.Op.TheVariants.{Set, Pick, Load, Store}
use Rattle.instructions.specs.declared.Instruction.{Instruction}
use Rattle.instructions.specs.declared.Instruction.TheVariants.{Do, If, Else, End, Repeat, Again}
use Rattle.stack.specs.Items.{below}
use Rattle.memory.specs.declared.Access.{Access}
use Rattle.memory.specs.declared.Access.TheVariants.{Read, Write}
use Rattle.memory.specs.Description.{Description, marked, free}
use Rattle.memory.specs.Laws.{Within}
use Rattle.machine.specs.declared.repeat.OpenRepeat.{OpenRepeat}
use Rattle.machine.specs.declared.visit.Choice.TheVariants.{Onward, Inward, Past, Fault}
use Rattle.machine.specs.States.{held}
use Rattle.machine.specs.Words.{value_of}
use Rattle.machine.specs.Machine.{open_at, lowered}
use Rattle.repeats.specs.declared.Move.{Move}
use Rattle.repeats.specs.Moves.{innermost, Goes}
use Rattle.memory.specs.declared.window.Window.{Window}
use Rattle.windows.specs.Windows.{no_window}

-- a load into register x of offset i of a window: the registers r and the memory d, whether it was
-- done, the registers and the memory then
module _ (r : List ℕ) (d : Description) (ok : Bool) (r' : List ℕ) (d' : Description) where
  -- in range it is read and marked; otherwise nothing changes
  abbrev pub Loaded : ℕ → ℕ → Window → Type 0
  Loaded x i w =
      (i < w.length → (ok ≡ true) × (r' ≡ slice_set r x (held d.cells (w.first + i))) × (d' ≡ marked d d.cells (d.rules.shows Read w.first w.length i)))
      × (w.length ≤ i → (ok ≡ false) × (r' ≡ r) × (d' ≡ d))

-- a store of a word at offset i of a window
module _ (d : Description) (ok : Bool) (d' : Description) where
  -- in range it is written and marked; otherwise nothing changes
  abbrev pub Stored : ℕ → ℕ → Window → Type 0
  Stored word i w =
      (i < w.length → (ok ≡ true) × (d' ≡ marked d (slice_set d.cells (w.first + i) word) (d.rules.shows Write w.first w.length i)))
      × (w.length ≤ i → (ok ≡ false) × (d' ≡ d))

-- what an op does, and whether it was done
module _ (ws : List Window) (r : List ℕ) (d : Description) (ok : Bool) (r' : List ℕ) (d' : Description) where
  abbrev pub Done : Op → Type 0
  Done (Set x v) = (ok ≡ true) × (r' ≡ slice_set r x (value_of v (held r))) × (d' ≡ d)
  Done (Pick x a b) = (ok ≡ true) × (r' ≡ slice_set r x (cond (held r a == 0) (held r x) (held r b))) × (d' ≡ d)
  Done (Load x a t) = Loaded r d ok r' d' x (held r a) (slice_index_or ws t no_window)
  Done (Store x a t) = Stored d ok d' (held r x) (held r a) (slice_index_or ws t no_window) × (r' ≡ r)

-- an op that is done leads to the next place; one that is not is a fault at its own
abbrev pub After : Bool → ℕ → Move → Type 0
After true p m = Goes (p + 1) Onward m
After false p m = Goes p Fault m

-- what an instruction does: the move m, with the open repeats before and then
module _ (ws : List Window) (js : List ℕ) (p : ℕ) (fs : List OpenRepeat) (r : List ℕ) (d : Description) (m : Move) (fs' : List OpenRepeat) (r' : List ℕ) (d' : Description) where
  abbrev pub Turned : Instruction → Type 0
  Turned (Do op) = (ok : Bool) × Done ws r d ok r' d' op × After ok p m × (fs' ≡ fs)
  Turned (If a) = (held r a ≡ 0 → Goes (held js p) Past m) × (0 < held r a → Goes (p + 1) Inward m) × (fs' ≡ fs) × (r' ≡ r) × (d' ≡ d)
  Turned Else = Goes (held js p) Onward m × (fs' ≡ fs) × (r' ≡ r) × (d' ≡ d)
  Turned End = Goes (p + 1) Onward m × (fs' ≡ fs) × (r' ≡ r) × (d' ≡ d)
  Turned (Repeat a k) =
      (min (held r a) k ≡ 0 → Goes (held js p) Past m × (fs' ≡ fs))
      × (0 < min (held r a) k → Goes (p + 1) Inward m × (fs' ≡ open_at (p + 1) (min (held r a) k) ∷ fs))
      × (r' ≡ r) × (d' ≡ d)
  Turned Again =
      ((innermost fs).left ≤ 1 → Goes (p + 1) Past m × (fs' ≡ below fs))
      × (1 < (innermost fs).left → Goes (innermost fs).start Inward m × (fs' ≡ lowered (innermost fs) ∷ below fs))
      × (r' ≡ r) × (d' ≡ d)

-- an access that is in range is not denied
abbrev pub Allowed : Description → Access → ℕ → Window → Type 0
Allowed d k i w = i < w.length → Within d w.first w.length i × (d.rules.cost k w.length ≤ free d)

-- the op can be done
abbrev pub ReadyOp : List Window → List ℕ → Description → Op → Type 0
ReadyOp ws r d (Set x v) = Unit {0}
ReadyOp ws r d (Pick x a b) = Unit {0}
ReadyOp ws r d (Load x a t) = Allowed d Read (held r a) (slice_index_or ws t no_window)
ReadyOp ws r d (Store x a t) = Allowed d Write (held r a) (slice_index_or ws t no_window)

-- the step can be taken, inside these open repeats
abbrev pub Ready : List Window → List OpenRepeat → List ℕ → Description → Instruction → Type 0
Ready ws fs r d (Do op) = ReadyOp ws r d op
Ready ws fs r d (If a) = Unit {0}
Ready ws fs r d Else = Unit {0}
Ready ws fs r d End = Unit {0}
Ready ws fs r d (Repeat a k) = length fs < 8
Ready ws fs r d Again = 0 < length fs
