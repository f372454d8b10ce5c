-- The labels of an image.
use Rattle.std.specs.Prelude.{◌≡◌, ℕ, ◌+◌, List, length, Some, None, Ok, Err, Option, Result}
use Rattle.program.specs.declared.refusal.Refusal.{Refusal}
use Rattle.program.specs.Refusals.{or_else}
use Rattle.header.specs.Layout.{header_at}
use Rattle.image.specs.Images.{code_at, image_refusal}
use Rattle.plan.specs.Planned.{plan_refusal, Planned}
use Rattle.exports.specs.declared.failed.Failed.{Failed}
use Rattle.exports.specs.declared.failed.Failed.TheVariants.{Refused, OutOfMemory}

-- reading refuses, or the plan does
abbrev pub unlabelled : List ℕ → ℕ → Option Refusal
unlabelled bs room = or_else (image_refusal bs) (plan_refusal (header_at bs) room)

abbrev pub Labelled : List ℕ → List ℕ → List ℕ → Result ℕ Failed → Type 0
Labelled bs before after (Ok n) = (unlabelled bs (length before) ≡ None) × (n ≡ (header_at bs).count + 1) × Planned (Ok tt) (header_at bs) (code_at bs) before after
Labelled bs before after (Err (Refused e)) = (unlabelled bs (length before) ≡ Some e) × (after ≡ before)
Labelled bs before after (Err (OutOfMemory full)) = after ≡ before
