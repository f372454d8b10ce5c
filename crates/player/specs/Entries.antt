-- The entries of a log that is played, beside those of the log as it is defined.
use Rattle.std.specs.Prelude.{ℕ, min, List, map, length, Ok, Err, vec_items, Result}
use Rattle.program.specs.declared.refusal.Refusal.{Refusal}
use Rattle.machine.specs.declared.visit.Visit.{Visit}
use Rattle.calls.specs.declared.Call.{Call}
use Rattle.calls.specs.declared.Call.TheVariants.{Seat, Put, Arg, Go, Look, Open, Outcome, Clear}
use Rattle.calls.specs.declared.Answer.{Answer}
use Rattle.calls.specs.declared.Answer.TheVariants.{Done, Counts, Word, Ended}
use Rattle.calls.specs.Benches.{Bench}
use Rattle.calls.specs.Calls.{answer, after, visited}
use Rattle.promises.specs.Logs.{log}
use Rattle.promises.specs.Logs as logs
use Rattle.player.specs.declared.entry.Entry.{Entry}

-- what an entry tells: the answer, the visits, and how many marks are seen
pub record Shown : Type 0 where
  pub answer : Result Answer Refusal
  pub visits : List Visit
  pub marks : ℕ

abbrev pub shown : Entry → Shown
shown e = record { answer = e.answer; visits = vec_items e.visits; marks = e.marks }

-- what it tells of a call on a bench
abbrev pub noted : Call → Bench → Shown
noted c b = record { answer = answer c b; visits = visited c b; marks = length (after c b).memory.seen }

abbrev pub logged : logs.Entry → Shown
logged e = record { answer = e.answer; visits = e.visits; marks = length e.seen }

-- what the entries of a log tell
abbrev pub entries_of : List Call → Bench → List Shown
entries_of cs b = map logged (log cs b)

-- the room for visits that a call is given
abbrev pub room_of : Call → ℕ
room_of (Seat image) = 0
room_of (Put t i w) = 0
room_of (Arg r w) = 0
room_of (Go room) = min room 1000000
room_of (Look t i) = 0
room_of (Open t i) = 0
room_of Outcome = 0
room_of Clear = 0

-- the steps that an answer counts
abbrev pub steps_in : Result Answer Refusal → ℕ
steps_in (Ok Done) = 0
steps_in (Ok (Counts tally)) = tally.steps
steps_in (Ok (Word w)) = 0
steps_in (Ok (Ended e)) = 0
steps_in (Err why) = 0

-- how many visits a call made, by its answer
abbrev pub made_by : Call → Result Answer Refusal → ℕ
made_by (Seat image) a = 0
made_by (Put t i w) a = 0
made_by (Arg r w) a = 0
made_by (Go room) a = steps_in a
made_by (Look t i) a = 0
made_by (Open t i) a = 0
made_by Outcome a = 0
made_by Clear a = 0
