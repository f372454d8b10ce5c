-- An image that is read, and written back.
use Rattle.std.specs.Prelude.{◌≡◌, ℕ, List, ◌++◌, length, drop, Some, None, Ok, Err, Option, Result, nat_le}
use Rattle.program.specs.declared.program.Program.{Program}
use Rattle.program.specs.declared.refusal.Refusal.{Refusal}
use Rattle.program.specs.declared.refusal.Reason.TheVariants.{NoRoomForImage}
use Rattle.program.specs.Programs.{code_of}
use Rattle.program.specs.Refusals.{unless, or_else}
use Rattle.image.specs.Images.{image_refusal, image_of}
use Rattle.calls.specs.Calls.{source_at}
use Rattle.bench.specs.Seats.{program_seated}
use Rattle.exports.specs.declared.failed.Failed.{Failed}
use Rattle.exports.specs.declared.failed.Failed.TheVariants.{Refused, OutOfMemory}

-- the program is the image's
pub record Read (bs : List ℕ) (p : Program) : Type 0 where
  pub accepted : image_refusal bs ≡ None
  pub source : program_seated p ≡ source_at bs
  pub bytes : image_of p.header (code_of p) ≡ bs

-- reading refuses, or so many bytes do not go into a list of `room`
abbrev pub unwritten : Option Refusal → ℕ → ℕ → Option Refusal
unwritten why long room = or_else why (unless (nat_le long room) NoRoomForImage long)

-- the bytes of an image are written in front, unless they are refused
abbrev pub Written : Option Refusal → List ℕ → List ℕ → List ℕ → Result ℕ Failed → Type 0
Written why bs before after (Ok n) = (unwritten why (length bs) (length before) ≡ None) × (n ≡ length bs) × (after ≡ bs ++ drop n before)
Written why bs before after (Err (Refused e)) = (unwritten why (length bs) (length before) ≡ Some e) × (after ≡ before)
Written why bs before after (Err (OutOfMemory full)) = after ≡ before

-- the image itself
abbrev pub Rewritten : List ℕ → List ℕ → List ℕ → Result ℕ Failed → Type 0
Rewritten bs = Written (image_refusal bs) bs
