-- What a plan answers, and what its list then has.
use Rattle.std.specs.Prelude.{◌≡◌, ℕ, ◌+◌, ◌<◌, ◌≤◌, true, List, ◌++◌, length, drop, Ok, Err, Option, Result, nat_le, slice_index_or}
use Rattle.instructions.specs.declared.Instruction.{Instruction}
use Rattle.instructions.specs.declared.Instruction.TheVariants.{Again}
use Rattle.program.specs.declared.header.Header.{Header}
use Rattle.program.specs.declared.refusal.Refusal.{Refusal}
use Rattle.program.specs.declared.refusal.Reason.TheVariants.{NotASource, NoRoomForResult}
use Rattle.program.specs.Headers.{is_source}
use Rattle.program.specs.Bounds.{bound}
use Rattle.program.specs.Openings.{around}
use Rattle.program.specs.Refusals.{unless, or_else}
use Rattle.labels.specs.declared.way.Way.{Way}
use Rattle.labels.specs.Kinds.{secrecy}
use Rattle.labels.specs.Rules.{Smallest}
use Rattle.labels.specs.Sets.{bits, sets, secret_tables}
use Rattle.labels.specs.Plans.{labels_of}

-- what a plan refuses, where the list has `long` entries: what is not a source, and then a list that is too short
abbrev pub plan_refusal : Header → ℕ → Option Refusal
plan_refusal h long = or_else (unless (is_source h.kind) NotASource 0) (unless (nat_le (h.count + 1) long) NoRoomForResult (h.count + 1))

-- the smallest sets of a program, as numbers
abbrev pub plan_of : Header → List Instruction → List ℕ
plan_of h code = labels_of (secret_tables h.tables) h.secret_entry code

-- accepted, the list begins with the smallest sets of places 0 to n, and later entries stay; refused, nothing changes
abbrev pub Planned : Result (Unit {0}) Refusal → Header → List Instruction → List ℕ → List ℕ → Type 0
Planned (Ok u) h code before after = (after ≡ plan_of h code ++ drop (length code + 1) before) × Smallest secrecy (secret_tables h.tables) (bits h.secret_entry) code (sets (plan_of h code))
Planned (Err e) h code before after = after ≡ before

-- what a pass needs of the code: registers 0 to 15, tables 0 to 7, and at most eight openings around any place
pub record Passable (code : List Instruction) : Type 0 where
  pub bounds : (p : ℕ) → p < length code → bound 16 8 (slice_index_or code p Again) ≡ true
  pub few : (p : ℕ) → length (around code p) ≤ 8

-- from and to places below n
abbrev pub Below : ℕ → Way → Type 0
Below n w = (w.from < n) × (w.to < n)
