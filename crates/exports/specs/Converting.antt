-- What an image becomes.
use Rattle.std.specs.Prelude.{ℕ, Bool, List, Option, Result}
use Rattle.program.specs.declared.refusal.Refusal.{Refusal}
use Rattle.program.specs.Refusals.{or_else}
use Rattle.image.specs.Images.{image_refusal, image_of}
use Rattle.calls.specs.Benches.{Seated}
use Rattle.calls.specs.Calls.{source_at, unconverted, converted}
use Rattle.exports.specs.declared.failed.Failed.{Failed}
use Rattle.exports.specs.Reading.{Written}

-- the image of a program
abbrev pub image_for : Seated → List ℕ
image_for s = image_of s.header s.code

-- reading refuses, or converting does
abbrev pub crooked : List ℕ → Bool → Option Refusal
crooked bs hides = or_else (image_refusal bs) (unconverted hides (source_at bs))

-- the image of what the source becomes
abbrev pub Straightened : List ℕ → Bool → List ℕ → List ℕ → Result ℕ Failed → Type 0
Straightened bs hides = Written (crooked bs hides) (image_for (converted (source_at bs)))
