-- A bench as its user sees it, and its answers.
use Rattle.std.specs.Prelude.{ℕ, List, Some, Ok, Err, Result}
use Rattle.program.specs.declared.refusal.Refusal.{Refusal}
use Rattle.memory.specs.Description.{Description}
use Rattle.memory.specs.Accesses.{answered, left}
use Rattle.calls.specs.declared.Answer.{Answer}
use Rattle.calls.specs.Benches as benches
use Rattle.calls.specs.Benches.{bench, most_steps_of, most_marks_of}
use Rattle.calls.specs.Calls.{source_at, converted, unseated, counts}
use Rattle.bench.specs.declared.bench.Bench.{Bench}
use Rattle.bench.specs.Seats.{seated}

abbrev pub view : {M : Type 0} {g : _} → (M → Description) → Bench M g → benches.Bench
view model b = benches.bench (model b.memory) (seated b.program) b.entry b.last

-- a result as an answer
abbrev pub answered_by : {X : Type 0} → (X → Answer) → Result X Refusal → Result Answer Refusal
answered_by says (Ok x) = Ok (says x)
answered_by says (Err why) = Err why

-- what a seat of an image answers and leaves, by its bytes
abbrev pub seat_answer : List ℕ → benches.Bench → Result Answer Refusal
seat_answer bs b = answered (unseated bs b) (let s = converted (source_at bs) in counts (most_steps_of s) (most_marks_of b.memory.rules s))

abbrev pub seat_after : List ℕ → benches.Bench → benches.Bench
seat_after bs b = left (unseated bs b) b (bench b.memory (Some (converted (source_at bs))) b.entry b.last)
