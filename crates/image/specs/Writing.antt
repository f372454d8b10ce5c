-- What writing answers.
use Rattle.std.specs.Prelude.{◌≡◌, ℕ, cond, List, ◌++◌, take, drop, None, Ok, Err, Result, nat_lt}
use Rattle.program.specs.declared.program.Program.{Program}
use Rattle.program.specs.declared.refusal.Refusal.{Refusal}
use Rattle.program.specs.declared.refusal.Reason.TheVariants.{NoRoomForImage}
use Rattle.program.specs.Refusals.{refusal}
use Rattle.header.specs.Layout.{header_at}
use Rattle.image.specs.Images.{code_at, image_refusal, image_of, image_length}
use Rattle.program.specs.Programs.{code_of}

-- into a byte list of that length
abbrev pub write_answer : Program → ℕ → Result ℕ Refusal
write_answer p room = cond (nat_lt room (image_length p.header)) (Err (refusal NoRoomForImage (image_length p.header))) (Ok (image_length p.header))

-- what the byte list then holds: the image, and behind it what stood there
abbrev pub written : Result ℕ Refusal → Program → List ℕ → List ℕ
written (Ok n) p bytes = image_of p.header (code_of p) ++ drop (image_length p.header) bytes
written (Err e) p bytes = bytes

-- these bytes are read as this program
pub record ReadAs (bs : List ℕ) (p : Program) : Type 0 where
  pub accepted : image_refusal bs ≡ None
  pub header : header_at bs ≡ p.header
  pub code : code_at bs ≡ code_of p

-- what was written is read as the same program
abbrev pub Rereads : Result ℕ Refusal → List ℕ → Program → Type 0
Rereads (Ok n) bytes p = ReadAs (take n bytes) p
Rereads (Err e) bytes p = Unit {0}
