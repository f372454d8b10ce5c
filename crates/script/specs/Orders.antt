-- What a line asks for.
use Rattle.std.specs.Prelude.{ℕ, cond, List, length, codes, Some, None, Ok, Err, Option, Result, ◌==◌}
use Rattle.std.specs.Str.{bytes_eq}
use Rattle.calls.specs.declared.Call.{Call}
use Rattle.calls.specs.declared.Call.TheVariants.{Put, Arg, Go, Look, Open, Outcome, Clear}
use Rattle.script.specs.declared.order.Order.{Order}
use Rattle.script.specs.declared.order.Order.TheVariants.{Seat as SeatOrder, Call as CallOrder}
use Rattle.script.specs.declared.unread.Unread.{Unread}
use Rattle.script.specs.declared.unread.Unread.TheVariants.{NoSuchCall, NotItsArguments}
use Rattle.script.specs.Numbers.{number_of}
use Rattle.script.specs.Words.{first, rest}

-- a seat of the image in a file, or another call
pub data Asked : Type 0 where
  seats : List ℕ → Asked
  does : Call → Asked

abbrev pub asked : Order → Asked
asked (SeatOrder file) = seats file.now
asked (CallOrder call) = does call

abbrev pub asked_of : Result Order Unread → Result Asked Unread
asked_of (Ok order) = Ok (asked order)
asked_of (Err why) = Err why

-- with what two numbers are, or three
abbrev pub by_two : (ℕ → ℕ → Call) → Option ℕ → Option ℕ → Option Call
by_two f None y = None
by_two f (Some a) None = None
by_two f (Some a) (Some b) = Some (f a b)

abbrev pub by_three : (ℕ → ℕ → ℕ → Call) → Option ℕ → Option ℕ → Option ℕ → Option Call
by_three f None y z = None
by_three f (Some a) y z = by_two (f a) y z

-- the calls, by what stands behind their names
abbrev pub put_of : List ℕ → Option Call
put_of text = by_three Put (number_of 64 (first text)) (number_of 64 (first (rest text))) (number_of 32 (rest (rest text)))

abbrev pub arg_of : List ℕ → Option Call
arg_of text = by_two Arg (number_of 64 (first text)) (number_of 32 (rest text))

abbrev pub look_of : List ℕ → Option Call
look_of text = by_two Look (number_of 64 (first text)) (number_of 64 (rest text))

abbrev pub open_of : List ℕ → Option Call
open_of text = by_two Open (number_of 64 (first text)) (number_of 64 (rest text))

abbrev pub with_room : Option ℕ → Option Call
with_room None = None
with_room (Some room) = Some (Go room)

-- with room for all visits where no number is given
abbrev pub go_of : List ℕ → Option Call
go_of text = cond (length text == 0) (Some (Go 1000000)) (with_room (number_of 64 text))

abbrev pub plain_of : Call → List ℕ → Option Call
plain_of call text = cond (length text == 0) (Some call) None

abbrev pub taken : Option Call → Result Asked Unread
taken None = Err NotItsArguments
taken (Some call) = Ok (does call)

abbrev pub seat_of : List ℕ → Result Asked Unread
seat_of text = cond (length text == 0) (Err NotItsArguments) (Ok (seats text))

-- the calls by their names
abbrev pub named : List ℕ → List ℕ → Result Asked Unread
named name text =
    cond (bytes_eq name (codes "seat")) (seat_of text)
    (cond (bytes_eq name (codes "put")) (taken (put_of text))
    (cond (bytes_eq name (codes "arg")) (taken (arg_of text))
    (cond (bytes_eq name (codes "go")) (taken (go_of text))
    (cond (bytes_eq name (codes "look")) (taken (look_of text))
    (cond (bytes_eq name (codes "open")) (taken (open_of text))
    (cond (bytes_eq name (codes "outcome")) (taken (plain_of Outcome text))
    (cond (bytes_eq name (codes "clear")) (taken (plain_of Clear text))
    (Err NoSuchCall))))))))

-- the name is the first word
abbrev pub read_as : List ℕ → Result Asked Unread
read_as line = named (first line) (rest line)
