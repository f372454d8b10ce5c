-- What conversion keeps and hides: runs of a converted program beside runs of its source, and beside each other.
use Rattle.std.specs.Prelude.{◌≡◌, ℕ, ◌≤◌, Bool, [], length, Ok, Err, Result}
use Rattle.program.specs.declared.handed_back.HandedBack.{HandedBack}
use Rattle.program.specs.declared.program.Program.{Program}
use Rattle.program.specs.Programs.{code_of}
use Rattle.labels.specs.Sets.{secret_tables}
use Rattle.machine.specs.States.{State}
use Rattle.machine.specs.Machine.{go, steps}
use Rattle.counting.specs.Counting.{most_steps}
use Rattle.conversion.specs.Refusing.{hidden_by}
use Rattle.simulation.specs.Results.{FollowsRun}
use Rattle.secrecy.specs.Alike.{Alike}
use Rattle.secrecy.specs.Converted.{wide}
use Rattle.secrecy.specs.Whole.{EndsIn}
use Rattle.converter.specs.Converting.{smallest_labels}

-- two states agree on the public cells, on the registers of a source that are not in A, and on what is seen of how
-- they were come to
abbrev pub SamePublic : Program → Bool → (ℕ → Bool) → State → State → Type 0
SamePublic source hides A x y = Alike source.header.tables (secret_tables source.header.tables) (hidden_by hides) (wide A) x y

-- runs of a converted program, over a memory that hides or one that does not, beside runs of its source
pub record Keeps (source : Program) (hides : Bool) (p : Program) : Type 0 where
  -- it has no fewer most steps than its source
  pub most : most_steps (code_of source) ≤ most_steps (code_of p)
  -- it never faults: a run comes to its end, with what the source's run left, or with the place of its fault
  pub follows : (x : State) → x.registers 24 ≡ 0
      → (z : State) × EndsIn source.header.tables (code_of p) x z
      × FollowsRun (steps source.header.tables (code_of source) (most_steps (code_of source)) (go 0 [] x)) z
  -- two runs that begin with the same public registers and cells make the same visits and the same accesses, offsets
  -- of hidden tables aside, and leave the same public cells
  pub alike : (x y z w : State) → SamePublic source hides (smallest_labels source.header (code_of source) 0) x y
      → EndsIn source.header.tables (code_of p) x z → EndsIn source.header.tables (code_of p) y w
      → SamePublic source hides (smallest_labels source.header (code_of source) (length (code_of source))) z w

abbrev pub KeepsWhat : Program → Bool → Result Program HandedBack → Type 0
KeepsWhat source hides (Ok p) = Keeps source hides p
KeepsWhat source hides (Err back) = Unit {0}
