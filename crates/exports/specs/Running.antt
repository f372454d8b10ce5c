-- What a run of an image comes to.
use Rattle.std.specs.Prelude.{◌≡◌, ℕ, ◌+◌, List, length, replicate, Some, None, Ok, Err, Option, Result}
use Rattle.program.specs.declared.refusal.Refusal.{Refusal}
use Rattle.program.specs.Refusals.{number_of, or_else}
use Rattle.header.specs.Layout.{header_at}
use Rattle.image.specs.Images.{code_at, image_refusal}
use Rattle.memory.specs.Description.{Description}
use Rattle.machine.specs.declared.visit.Visit.{Visit}
use Rattle.run.specs.declared.Outcome.{Outcome}
use Rattle.run.specs.Run.{refusal, Ran}
use Rattle.exports.specs.declared.failed.Failed.{Failed}
use Rattle.exports.specs.declared.failed.Failed.TheVariants.{Refused, OutOfMemory}
use Rattle.exports.specs.declared.running.Shape.{Shape}
use Rattle.exports.specs.declared.running.Went.{Went}
use Rattle.exports.specs.Shapes.{over, pile_for}

abbrev pub fault_number : Option ℕ → ℕ
fault_number None = 0
fault_number (Some p) = p + 1

abbrev pub went : Result Outcome Failed → Went
went (Ok o) = record { number = 0; place = 0; steps = o.steps; marks = o.marks; fault = fault_number o.fault }
went (Err (Refused e)) = record { number = number_of e.reason; place = e.place; steps = 0; marks = 0; fault = 0 }
went (Err (OutOfMemory full)) = record { number = 255; place = 0; steps = 0; marks = 0; fault = 0 }

-- these numbers tell an answer of which P holds
abbrev pub Ends : Went → (Result Outcome Failed → Type 0) → Type 0
Ends w P = (answer : Result Outcome Failed) × (w ≡ went answer) × P answer

-- reading refuses, or the run does
abbrev pub unrun : List ℕ → Description → ℕ → Option Refusal
unrun bs d room = or_else (image_refusal bs) (refusal (header_at bs).tables (code_at bs) d room)

-- the run of the image on the pile of the shape, and the cells that it leaves
pub record Run (bs words : List ℕ) (s : Shape) (room : ℕ) (before after : List ℕ) (o : Outcome) : Type 0 where
  pub accepted : image_refusal bs ≡ None
  pub left : Description
  pub unvisited : List Visit
  pub visited : List Visit
  pub many : length unvisited ≡ room
  pub ran : Ran (header_at bs).tables (code_at bs) (over words (replicate 16 0)) (pile_for s before) left unvisited visited (Ok o)
  pub cells : after ≡ over left.cells before

abbrev pub Goes : List ℕ → List ℕ → Shape → ℕ → List ℕ → List ℕ → Result Outcome Failed → Type 0
Goes bs words s room before after (Ok o) = Run bs words s room before after o
Goes bs words s room before after (Err (Refused e)) = (unrun bs (pile_for s before) room ≡ Some e) × (after ≡ before)
Goes bs words s room before after (Err (OutOfMemory full)) = after ≡ before
