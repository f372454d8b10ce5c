-- What a bench promises of every list of calls.
use Rattle.std.specs.Prelude.{◌≡◌, ℕ, ◌+◌, ◌≤◌, Bool, true, false, List, [], ◌∷◌, length, Some, None, vec_items, Option}
use Rattle.program.specs.Refusals.{refused_by}
use Rattle.memory.specs.Description.{Mark, Description}
use Rattle.memory.specs.Laws.{Lawful}
use Rattle.labels.specs.Sets.{sets}
use Rattle.plan.specs.Planned.{plan_of}
use Rattle.conversion.specs.OneWay.{OneWay}
use Rattle.calls.specs.declared.Call.{Call}
use Rattle.calls.specs.declared.Call.TheVariants.{Seat, Put, Arg, Go, Look, Open, Outcome, Clear}
use Rattle.calls.specs.declared.Answer.{Answer}
use Rattle.calls.specs.declared.Answer.TheVariants.{Done, Counts, Word, Ended}
use Rattle.calls.specs.Bytes.{OfBytes}
use Rattle.calls.specs.Benches.{Seated, Bench, new, none_seated, secret_table, secret_register}
use Rattle.calls.specs.Calls.{source_at, after, after_all, counts}
use Rattle.promises.specs.Plain.{Plain, first_plain, takes, Says}
use Rattle.promises.specs.Logs.{Entry, log, heard}

-- Cells and answers are the plain bench's: fed the calls of a log and told which of them were refused, it
-- answers look, open and outcome as the log has it, and ends with these cells.
abbrev pub PlainAgrees : Plain → List Entry → List ℕ → Type 0
PlainAgrees p [] cells = cells ≡ p.cells
PlainAgrees p (e ∷ es) cells = heard e.answer (PlainAgrees p es cells) (λ a. Says p e.call a × PlainAgrees (takes e.call p) es cells)

-- Secret words cannot be told apart.

-- The same call of a bench, but for a word that the program seated on it calls secret. Before one is seated any word
-- may differ, since such a call is refused; images are the same where their bytes are.
pub data SameButSecrets (b : Bench) : Call → Call → Type 0 where
  same : (c : Call) → SameButSecrets b c c
  seats : (v w : _) → vec_items v ≡ vec_items w → SameButSecrets b (Seat v) (Seat w)
  puts : (t i v w : ℕ) → secret_table b t ≡ true → SameButSecrets b (Put t i v) (Put t i w)
  args : (r v w : ℕ) → secret_register b r ≡ true → SameButSecrets b (Arg r v) (Arg r w)
  early_puts : (t i v w : ℕ) → none_seated b ≡ true → SameButSecrets b (Put t i v) (Put t i w)
  early_args : (r v w : ℕ) → none_seated b ≡ true → SameButSecrets b (Arg r v) (Arg r w)

-- two lists of calls, the same but for secret words, as the program says that is seated at each call
pub data AllSameButSecrets : Bench → List Call → List Call → Type 0 where
  none : (b : Bench) → AllSameButSecrets b [] []
  more : (b : Bench) (x y : Call) (xs ys : List Call) → SameButSecrets b x y → AllSameButSecrets (after x b) xs ys → AllSameButSecrets b (x ∷ xs) (y ∷ ys)

-- whether the answer to a call may tell secrets, which is what open and outcome are for
abbrev pub tells : Call → Bool
tells (Seat image) = false
tells (Put t i w) = false
tells (Arg r w) = false
tells (Go room) = false
tells (Look t i) = false
tells (Open t i) = true
tells Outcome = true
tells Clear = false

-- the same refusal or none, the same visits, the same seen list and, unless the call may tell secrets, the
-- same answer
pub record EntriesLookAlike (e f : Entry) : Type 0 where
  pub refusal : refused_by e.answer ≡ refused_by f.answer
  pub visits : e.visits ≡ f.visits
  pub seen : e.seen ≡ f.seen
  pub answer : tells e.call ≡ false → e.answer ≡ f.answer

-- as many entries, each like the other's
pub data LogsLookAlike : List Entry → List Entry → Type 0 where
  none : LogsLookAlike [] []
  more : (e f : Entry) (es fs : List Entry) → EntriesLookAlike e f → LogsLookAlike es fs → LogsLookAlike (e ∷ es) (f ∷ fs)

-- Counts are exact, and within what seat answered.

-- the source that the last accepted seat read, and the most steps and most marks that it answered
pub record Most : Type 0 where
  pub source : Seated
  pub steps : ℕ
  pub marks : ℕ

-- there is one way through the source: it has no public if and no repeat
abbrev pub OneWaySource : Seated → Type 0
OneWaySource s = OneWay (sets (plan_of s.header s.code)) 0 s.code

-- These steps and marks, which a go answered, are its visits and what it added to the marks seen before it. They are
-- at most the most, and equal to it where there is one way through.
pub record ExactCounts (most : Most) (before : List Mark) (steps marks : ℕ) (e : Entry) : Type 0 where
  pub visits : steps ≡ length e.visits
  pub added : length e.seen ≡ length before + marks
  pub few_steps : steps ≤ most.steps
  pub few_marks : marks ≤ most.marks
  pub all_steps : OneWaySource most.source → steps ≡ most.steps
  pub all_marks : OneWaySource most.source → marks ≡ most.marks

-- a go is accepted only after a seat, and answers counts, against what that seat answered
abbrev pub CountedBy : Option Most → List Mark → Answer → Entry → Type 0
CountedBy None before a e = ⊥
CountedBy (Some most) before a e = (n : ℕ) × (m : ℕ) × (a ≡ counts n m) × ExactCounts most before n m e

-- of the accepted calls a go is counted, and no other
abbrev pub CountedGo : Option Most → List Mark → Entry → Call → Answer → Type 0
CountedGo most before e (Seat image) a = Unit {0}
CountedGo most before e (Put t i w) a = Unit {0}
CountedGo most before e (Arg r w) a = Unit {0}
CountedGo most before e (Go room) a = CountedBy most before a e
CountedGo most before e (Look t i) a = Unit {0}
CountedGo most before e (Open t i) a = Unit {0}
CountedGo most before e Outcome a = Unit {0}
CountedGo most before e Clear a = Unit {0}

-- of an accepted seat: the source that its image is, and what it answered
abbrev pub most_answered : List ℕ → Answer → Option Most
most_answered image (Counts tally) = Some (record { source = source_at image; steps = tally.steps; marks = tally.marks })
most_answered image Done = None
most_answered image (Word w) = None
most_answered image (Ended e) = None

-- the most that holds after an accepted call
abbrev pub most_after : Call → Answer → Option Most → Option Most
most_after (Seat image) a most = most_answered (vec_items image) a
most_after (Put t i w) a most = most
most_after (Arg r w) a most = most
most_after (Go room) a most = most
most_after (Look t i) a most = most
most_after (Open t i) a most = most
most_after Outcome a most = most
most_after Clear a most = most

-- each go of a log is counted, where these marks were seen before the log
abbrev pub Tallies : Option Most → List Mark → List Entry → Type 0
Tallies most before [] = Unit {0}
Tallies most before (e ∷ es) =
    heard e.answer (Tallies most e.seen es)
    (λ a. CountedGo most before e e.call a × Tallies (most_after e.call a most) e.seen es)

-- the three promises, of a new bench over a memory that is described by d, and of every list of calls
pub record Promises (d : Description) : Type 0 where
  -- cells and answers are the plain bench's
  pub plain : (calls : List Call) → OfBytes calls → PlainAgrees (first_plain d.cells) (log calls (new d)) (after_all calls (new d)).memory.cells
  -- secret words cannot be told apart
  pub secret : (calls others : List Call) → OfBytes calls → AllSameButSecrets (new d) calls others → LogsLookAlike (log calls (new d)) (log others (new d))
  -- counts are exact, and within what seat answered
  pub counts : (calls : List Call) → OfBytes calls → Tallies None [] (log calls (new d))

-- they hold of every memory that keeps the laws
abbrev pub Promised : Type 0
Promised = (d : Description) → Lawful d → Promises d
