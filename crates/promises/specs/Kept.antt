-- What the promises need of one source that is accepted: its result's runs, beside its own and beside each other.
use Rattle.std.specs.Prelude.{◌≡◌, ℕ, ◌+◌, ◌<◌, ◌≤◌, Bool, false, List, length, None}
use Rattle.program.specs.Headers.{cells_of, first_cell}
use Rattle.memory.specs.Description.{Description}
use Rattle.memory.specs.Laws.{Lawful}
use Rattle.machine.specs.States.{State, held}
use Rattle.machine.specs.Machine.{length_of, state_of}
use Rattle.labels.specs.Sets.{bits, secret_tables}
use Rattle.image.specs.Images.{image_refusal}
use Rattle.conversion.specs.Sources.{IsSource}
use Rattle.simulation.specs.Results.{FollowsRun}
use Rattle.converter.specs.Converting.{place_refusal}
use Rattle.run.specs.Run.{visits_of, marks_of}
use Rattle.calls.specs.Benches.{Seated, comes, most_steps_of, most_marks_of}
use Rattle.calls.specs.Bytes.{Bytes}
use Rattle.calls.specs.Calls.{source_at, converted, unconverted}
use Rattle.promises.specs.Promises.{OneWaySource}

-- a source as reading gives it, no place of which is refused, with a result of not too many steps
pub record AcceptedSource (hides : Bool) (s : Seated) : Type 0 where
  pub source : IsSource s.header s.code
  pub places : place_refusal s.header s.code hides ≡ None
  pub short : most_steps_of (converted s) ≤ 1000000

-- an image of bytes that neither reading nor converting refuses is such a source
abbrev pub ImagesAccepted : Type 0
ImagesAccepted =
    (hides : Bool) (bs : List ℕ) → Bytes bs → image_refusal bs ≡ None → unconverted hides (source_at bs) ≡ None → AcceptedSource hides (source_at bs)

-- where a run of what the source becomes comes to, from these entry registers and cells
abbrev pub result_run : Seated → List ℕ → List ℕ → State
result_run s entry cells = state_of (comes (converted s) entry cells)

-- a run of the result follows the run of the source
abbrev pub RunsFollow : Type 0
RunsFollow =
    (hides : Bool) (s : Seated) (entry cells : List ℕ) → AcceptedSource hides s → length entry ≡ 16 → FollowsRun (comes s entry cells) (result_run s entry cells)

-- entry registers and cells that are the same but for secret ones
pub record SamePublicStart (s : Seated) (entry entry′ memory memory′ : List ℕ) : Type 0 where
  pub registers : (r : ℕ) → r < 16 → bits s.header.secret_entry r ≡ false → held entry r ≡ held entry′ r
  pub cells : (t i : ℕ) → secret_tables s.header.tables t ≡ false → i < length_of s.header.tables t
      → held memory (first_cell s.header.tables t + i) ≡ held memory′ (first_cell s.header.tables t + i)

-- two runs that show the same, and leave the same in public cells
pub record RunAlike (s : Seated) (d : Description) (x y : State) : Type 0 where
  pub visits : visits_of x.trace ≡ visits_of y.trace
  pub marks : marks_of s.header.tables d.rules.shows x.trace ≡ marks_of s.header.tables d.rules.shows y.trace
  pub cells : (t i : ℕ) → secret_tables s.header.tables t ≡ false → i < length_of s.header.tables t
      → x.cells (first_cell s.header.tables t + i) ≡ y.cells (first_cell s.header.tables t + i)

-- two runs of the result that start the same but for what is secret
abbrev pub ResultRunsAlike : Type 0
ResultRunsAlike =
    (d : Description) (s : Seated) (entry entry′ memory memory′ : List ℕ)
    → Lawful d → AcceptedSource d.rules.hides s → cells_of s.header.tables ≤ length d.cells
    → length entry ≡ 16 → length entry′ ≡ 16 → SamePublicStart s entry entry′ memory memory′ → RunAlike s d (result_run s entry memory) (result_run s entry′ memory′)

-- steps and marks of a run of the result: at most the most, and the most where there is one way through
pub record RunCounted (s : Seated) (d : Description) (x : State) : Type 0 where
  pub few_steps : length (visits_of x.trace) ≤ most_steps_of (converted s)
  pub few_marks : length (marks_of s.header.tables d.rules.shows x.trace) ≤ most_marks_of d.rules (converted s)
  pub all_steps : OneWaySource s → length (visits_of x.trace) ≡ most_steps_of (converted s)
  pub all_marks : OneWaySource s → length (marks_of s.header.tables d.rules.shows x.trace) ≡ most_marks_of d.rules (converted s)

abbrev pub RunsCounted : Type 0
RunsCounted =
    (d : Description) (s : Seated) (entry cells : List ℕ)
    → Lawful d → AcceptedSource d.rules.hides s → cells_of s.header.tables ≤ length d.cells → most_marks_of d.rules (converted s) ≤ 1000000
    → length entry ≡ 16 → RunCounted s d (result_run s entry cells)

-- all of it
pub record Kept : Type 0 where
  pub images : ImagesAccepted
  pub follow : RunsFollow
  pub alike : ResultRunsAlike
  pub counted : RunsCounted
