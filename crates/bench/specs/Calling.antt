-- A call that is a value.
use Rattle.std.specs.Prelude.{ℕ, min}
use Rattle.calls.specs.declared.Call.{Call}
use Rattle.calls.specs.declared.Call.TheVariants.{Seat, Put, Arg, Go, Look, Open, Outcome, Clear}

-- a call as it is done where there are so many entries for visits
abbrev pub within : ℕ → Call → Call
within n (Seat image) = Seat image
within n (Put t i w) = Put t i w
within n (Arg r w) = Arg r w
within n (Go room) = Go (min room n)
within n (Look t i) = Look t i
within n (Open t i) = Open t i
within n Outcome = Outcome
within n Clear = Clear
