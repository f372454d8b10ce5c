-- An answer in numbers.
use Rattle.std.specs.Prelude.{◌≡◌, ℕ, Some, Ok, Err, Option, Result}
use Rattle.program.specs.declared.refusal.Refusal.{Refusal}
use Rattle.program.specs.Refusals.{number_of}
use Rattle.exports.specs.declared.came.Came.{Came}
use Rattle.exports.specs.declared.failed.Failed.{Failed}
use Rattle.exports.specs.declared.failed.Failed.TheVariants.{Refused, OutOfMemory}

abbrev pub came : Result ℕ Failed → Came
came (Ok n) = record { number = 0; place = 0; length = n }
came (Err (Refused e)) = record { number = number_of e.reason; place = e.place; length = 0 }
came (Err (OutOfMemory full)) = record { number = 255; place = 0; length = 0 }

-- these numbers tell an answer of which P holds
abbrev pub Tells : Came → (Result ℕ Failed → Type 0) → Type 0
Tells c P = (answer : Result ℕ Failed) × (c ≡ came answer) × P answer

-- what fails is refused so, or memory ran out
abbrev pub Failing : Option Refusal → Failed → Type 0
Failing why (Refused e) = why ≡ Some e
Failing why (OutOfMemory full) = Unit {0}
