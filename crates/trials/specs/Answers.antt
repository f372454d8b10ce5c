-- What trials answer.
use Rattle.std.specs.Prelude.{ℕ, Bool, cond, List, ◌++◌, length, take, drop, Some, None, Ok, Err, Option, Result, ◌==◌, nat_lt, codes, decimal}
use Rattle.std.specs.List.{list_all}
use Rattle.std.specs.Str.{bytes_eq}
use Rattle.program.specs.declared.refusal.Refusal.{Refusal}
use Rattle.program.specs.declared.refusal.Reason.TheVariants.{NoRoomForImage}
use Rattle.program.specs.declared.header.Kind.TheVariants.{Converted}
use Rattle.program.specs.Refusals.{refusal, number_of}
use Rattle.program.specs.Headers.{longest}
use Rattle.program.specs.Headers.{kind_code}
use Rattle.header.specs.Layout.{header_at}
use Rattle.image.specs.Images.{read_refusal}
use Rattle.trials.specs.declared.answer.Answer.{Answer}
use Rattle.trials.specs.declared.answer.Answer.TheVariants.{Read, Written, Refused, OtherBytes, Disturbed}

-- a refusal, or else an answer
abbrev pub unless_refused : Option Refusal → Answer → Answer
unless_refused None a = a
unless_refused (Some e) a = Refused e

-- of reading an image into an instruction list of that length
abbrev pub read_answer : List ℕ → ℕ → Answer
read_answer bs room = unless_refused (read_refusal bs room) (Read (header_at bs).kind (header_at bs).count)

-- of writing an image of so many bytes into a byte list of that length
abbrev pub bytes_answer : ℕ → ℕ → Answer
bytes_answer long room = cond (nat_lt room long) (Refused (refusal NoRoomForImage long)) (Written long)

-- of reading an image with room enough, and writing it into a byte list of that length
abbrev pub write_answer : List ℕ → ℕ → Answer
write_answer bs room = unless_refused (read_refusal bs (longest Converted)) (bytes_answer (length bs) room)

-- no byte differs from the filler
abbrev pub untouched : List ℕ → Bool
untouched = list_all (λ b. b == 165)

-- of writing an image, by what the byte list then holds
abbrev pub judged : Result ℕ Refusal → List ℕ → List ℕ → Answer
judged (Ok n) out image = cond (untouched (drop n out)) (cond (bytes_eq (take n out) image) (Written n) OtherBytes) Disturbed
judged (Err e) out image = cond (untouched out) (Refused e) Disturbed

-- in the words of the case files
abbrev pub answer_text : Answer → List ℕ
answer_text (Read kind count) = codes "ok kind=" ++ (decimal (kind_code kind) ++ (codes " n=" ++ decimal count))
answer_text (Written length) = codes "ok " ++ decimal length
answer_text (Refused e) = codes "refused " ++ (decimal (number_of e.reason) ++ (codes " " ++ decimal e.place))
answer_text OtherBytes = codes "altered"
answer_text Disturbed = codes "disturbed"
