-- The images of calls are lists of bytes, as the types of the calls say: the definitions have lists of
-- numbers there.
use Rattle.std.specs.Prelude.{ℕ, ◌<◌, List, [], ◌∷◌, vec_items, slice_index}
use Rattle.calls.specs.declared.Call.{Call}
use Rattle.calls.specs.declared.Call.TheVariants.{Seat, Put, Arg, Go, Look, Open, Outcome, Clear}

-- each number is a byte
abbrev pub Bytes : List ℕ → Type 0
Bytes ns = (i : ℕ) → slice_index ns i < 256

abbrev pub ImageOfBytes : Call → Type 0
ImageOfBytes (Seat image) = Bytes (vec_items image)
ImageOfBytes (Put t i w) = Unit {0}
ImageOfBytes (Arg r w) = Unit {0}
ImageOfBytes (Go room) = Unit {0}
ImageOfBytes (Look t i) = Unit {0}
ImageOfBytes (Open t i) = Unit {0}
ImageOfBytes Outcome = Unit {0}
ImageOfBytes Clear = Unit {0}

abbrev pub OfBytes : List Call → Type 0
OfBytes [] = Unit {0}
OfBytes (c ∷ cs) = ImageOfBytes c × OfBytes cs
