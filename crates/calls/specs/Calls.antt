-- What each call refuses, answers and leaves.
use Rattle.std.specs.Prelude.{ℕ, ◌+◌, Bool, cond, not, List, [], ◌∷◌, length, Some, None, vec_items, Option, is_none, Result, nat_le, nat_lt, slice_set}
use Rattle.program.specs.declared.refusal.Refusal.{Refusal}
use Rattle.program.specs.declared.refusal.Reason.{Reason}
use Rattle.program.specs.declared.refusal.Reason.TheVariants.{NotASource, TooManySteps, AlreadySeated, MemoryTooSmall, NoneSeated, NoSuchTable, IndexTooLarge, NoFreeMarks, NoSuchRegister, SecretTable, NoRoomForVisits, NoOutcome}
use Rattle.program.specs.Headers.{is_source, cells_of}
use Rattle.program.specs.Refusals.{refusal, unless, or_else}
use Rattle.memory.specs.declared.Access.TheVariants.{Read, Write}
use Rattle.memory.specs.Description.{free, marked, cleared}
use Rattle.memory.specs.Accesses.{answered, left}
use Rattle.machine.specs.declared.visit.Visit.{Visit}
use Rattle.counting.specs.Counting.{most_steps}
use Rattle.header.specs.Layout.{header_at}
use Rattle.image.specs.Images.{code_at, image_refusal}
use Rattle.converter.specs.Converting.{result_of, result_header, place_refusal}
use Rattle.calls.specs.declared.Call.{Call}
use Rattle.calls.specs.declared.Call.TheVariants.{Seat, Put, Arg, Go, Look, Open, Outcome, Clear}
use Rattle.calls.specs.declared.Answer.{Answer}
use Rattle.calls.specs.declared.Answer.TheVariants.{Done, Counts, Word, Ended}
use Rattle.calls.specs.declared.Ending.{Ending}
use Rattle.calls.specs.Benches.{Seated, seat, Bench, bench, words, ending, most_steps_of, most_marks_of, program, none_seated, no_such_table, len, base, secret_table, outside, dear, cell_at, gone, new_visits, new_marks}

-- a test, and the reason that is given where it holds
pub data Test : Type 0 where
  ◌⇒◌ : Bool → Reason → Test

infix 80 ◌⇒◌
-- the first that applies
abbrev pub first_of : List Test → Option Refusal
first_of [] = None
first_of ((bad ⇒ why) ∷ tests) = cond bad (Some (refusal why 0)) (first_of tests)

-- the source that an image is
abbrev pub source_at : List ℕ → Seated
source_at bs = seat (header_at bs) (code_at bs)

-- what converting makes of a source
abbrev pub converted : Seated → Seated
converted s = seat (result_header s.header (length (result_of s.header s.code))) (result_of s.header s.code)

-- why a source is not converted, whatever the list
abbrev pub unconverted : Bool → Seated → Option Refusal
unconverted hides s =
    or_else (unless (is_source s.header.kind) NotASource 0)
    (or_else (place_refusal s.header s.code hides) (unless (nat_le (most_steps (result_of s.header s.code)) 1000000) TooManySteps 0))

-- why an image is not seated: one is, or reading refuses it, or converting, or it has too many cells
abbrev pub unseated : List ℕ → Bench → Option Refusal
unseated bs b =
    or_else (first_of (not (none_seated b) ⇒ AlreadySeated ∷ []))
    (or_else (image_refusal bs)
    (or_else (unconverted b.memory.rules.hides (source_at bs))
    (first_of (nat_lt (length b.memory.cells) (cells_of (header_at bs).tables) ⇒ MemoryTooSmall ∷ []))))

-- why a call is refused
abbrev pub refused : Call → Bench → Option Refusal
refused (Seat image) b = unseated (vec_items image) b
refused (Put t i w) b = first_of (none_seated b ⇒ NoneSeated ∷ no_such_table b t ⇒ NoSuchTable ∷ outside b t i ⇒ IndexTooLarge ∷ dear Write b t ⇒ NoFreeMarks ∷ [])
refused (Arg r w) b = first_of (none_seated b ⇒ NoneSeated ∷ nat_lt 15 r ⇒ NoSuchRegister ∷ [])
refused (Go room) b =
    first_of (none_seated b ⇒ NoneSeated ∷ nat_lt room (most_steps_of (program b)) ⇒ NoRoomForVisits ∷ nat_lt (free b.memory) (most_marks_of b.memory.rules (program b)) ⇒ NoFreeMarks ∷ [])
refused (Look t i) b = first_of (none_seated b ⇒ NoneSeated ∷ no_such_table b t ⇒ NoSuchTable ∷ secret_table b t ⇒ SecretTable ∷ outside b t i ⇒ IndexTooLarge ∷ dear Read b t ⇒ NoFreeMarks ∷ [])
refused (Open t i) b = first_of (none_seated b ⇒ NoneSeated ∷ no_such_table b t ⇒ NoSuchTable ∷ outside b t i ⇒ IndexTooLarge ∷ dear Read b t ⇒ NoFreeMarks ∷ [])
refused Outcome b = first_of (is_none b.last ⇒ NoOutcome ∷ [])
refused Clear b = None

-- a bench after cell i of table t was read
abbrev pub after_read : Bench → ℕ → ℕ → Bench
after_read b t i =
    bench (marked b.memory b.memory.cells (b.memory.rules.shows Read (base b t) (len b t) i)) b.seated b.entry b.last

-- what an accepted call leaves
abbrev pub leaves : Call → Bench → Bench
leaves (Seat image) b = bench b.memory (Some (converted (source_at (vec_items image)))) b.entry b.last
leaves (Put t i w) b =
    bench (marked b.memory (slice_set b.memory.cells (base b t + i) w) (b.memory.rules.shows Write (base b t) (len b t) i)) b.seated b.entry b.last
leaves (Arg r w) b = bench b.memory b.seated (slice_set b.entry r w) b.last
leaves (Go room) b =
    bench (marked b.memory (words (length b.memory.cells) (gone b).cells) (new_marks b)) b.seated b.entry (Some (ending (gone b)))
leaves (Look t i) b = after_read b t i
leaves (Open t i) b = after_read b t i
leaves Outcome b = b
leaves Clear b = bench (cleared b.memory) b.seated b.entry b.last

abbrev pub counts : ℕ → ℕ → Answer
counts steps marks = Counts (record { steps = steps; marks = marks })

abbrev pub told : Option Ending → Answer
told None = Done
told (Some e) = Ended e

-- what an accepted call answers
abbrev pub replies : Call → Bench → Answer
replies (Seat image) b = let s = converted (source_at (vec_items image)) in counts (most_steps_of s) (most_marks_of b.memory.rules s)
replies (Put t i w) b = Done
replies (Arg r w) b = Done
replies (Go room) b = counts (length (new_visits b)) (length (new_marks b))
replies (Look t i) b = Word (cell_at b t i)
replies (Open t i) b = Word (cell_at b t i)
replies Outcome b = told b.last
replies Clear b = Done

-- what an accepted call visits
abbrev pub visits : Call → Bench → List Visit
visits (Seat image) b = []
visits (Put t i w) b = []
visits (Arg r w) b = []
visits (Go room) b = new_visits b
visits (Look t i) b = []
visits (Open t i) b = []
visits Outcome b = []
visits Clear b = []

-- what a call answers, leaves and visits: a refusal changes nothing
abbrev pub answer : Call → Bench → Result Answer Refusal
answer c b = answered (refused c b) (replies c b)

abbrev pub after : Call → Bench → Bench
after c b = left (refused c b) b (leaves c b)

abbrev pub visited : Call → Bench → List Visit
visited c b = left (refused c b) [] (visits c b)

-- after a list of calls
abbrev pub after_all : List Call → Bench → Bench
after_all [] b = b
after_all (c ∷ cs) b = after_all cs (after c b)
