-- The plain bench: it has cells and no memory around them, and a go runs the source itself. It is
-- fed only the calls that were accepted.
use Rattle.std.specs.Prelude.{◌≡◌, ℕ, suc, ◌+◌, List, length, replicate, Some, None, vec_items, Option, slice_set}
use Rattle.program.specs.Headers.{first_cell}
use Rattle.machine.specs.States.{State, held}
use Rattle.machine.specs.Machine.{Conf, go, stop, state_of}
use Rattle.calls.specs.declared.Call.{Call}
use Rattle.calls.specs.declared.Call.TheVariants.{Seat, Put, Arg, Go, Look, Open, Outcome, Clear}
use Rattle.calls.specs.declared.Answer.{Answer}
use Rattle.calls.specs.declared.Answer.TheVariants.{Word, Ended}
use Rattle.calls.specs.declared.Ending.{Ending}
use Rattle.calls.specs.Benches.{Seated, or_blank, words, comes, ending_of}
use Rattle.calls.specs.Calls.{source_at, converted}

pub record Plain : Type 0 where
  pub source : Option Seated
  pub entry : List ℕ
  pub cells : List ℕ
  pub last : Option Ending

abbrev pub plain : Option Seated → List ℕ → List ℕ → Option Ending → Plain
plain s entry cells last = record { source = s; entry = entry; cells = cells; last = last }

-- at first it has the memory's cells
abbrev pub first_plain : List ℕ → Plain
first_plain cells = plain None (replicate 16 0) cells None

-- the cell of index i of table t
abbrev pub cell_of : Plain → ℕ → ℕ → ℕ
cell_of p t i = first_cell (or_blank p.source).header.tables t + i

-- after a go. Where the source reaches its end, its cells and registers stand, and 0. Where it
-- faults, those stand that a run z of the converted program leaves from the same start, and one more
-- than the place of the fault.
abbrev pub after_go : Plain → Conf → State → Plain
after_go p (go q fs x) z = plain p.source p.entry (words (length p.cells) x.cells) (Some (ending_of x.registers 0))
after_go p (stop q x) z = plain p.source p.entry (words (length p.cells) z.cells) (Some (ending_of z.registers (suc q)))

-- what an accepted call makes of it
abbrev pub takes : Call → Plain → Plain
takes (Seat image) p = plain (Some (source_at (vec_items image))) p.entry p.cells p.last
takes (Put t i w) p = plain p.source p.entry (slice_set p.cells (cell_of p t i) w) p.last
takes (Arg r w) p = plain p.source (slice_set p.entry r w) p.cells p.last
takes (Go room) p =
    let s = or_blank p.source in after_go p (comes s p.entry p.cells) (state_of (comes (converted s) p.entry p.cells))
takes (Look t i) p = p
takes (Open t i) p = p
takes Outcome p = p
takes Clear p = p

-- an answer to look, open and outcome is the plain bench's
abbrev pub Says : Plain → Call → Answer → Type 0
Says p (Seat image) a = Unit {0}
Says p (Put t i w) a = Unit {0}
Says p (Arg r w) a = Unit {0}
Says p (Go room) a = Unit {0}
Says p (Look t i) a = a ≡ Word (held p.cells (cell_of p t i))
Says p (Open t i) a = a ≡ Word (held p.cells (cell_of p t i))
Says p Outcome a = (e : Ending) × (p.last ≡ Some e) × (a ≡ Ended e)
Says p Clear a = Unit {0}
