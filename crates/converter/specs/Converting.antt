-- What converting answers.
use Rattle.std.specs.Prelude.{◌≡◌, ℕ, Bool, List, [], ◌++◌, length, drop, Some, None, Ok, Err, vec_items, Option, Result, nat_le}
use Rattle.instructions.specs.declared.Instruction.{Instruction}
use Rattle.program.specs.declared.header.Header.{Header}
use Rattle.program.specs.declared.header.Kind.TheVariants.{Converted}
use Rattle.program.specs.declared.handed_back.HandedBack.{HandedBack}
use Rattle.program.specs.declared.program.Program.{Program}
use Rattle.program.specs.declared.refusal.Refusal.{Refusal}
use Rattle.program.specs.declared.refusal.Reason.TheVariants.{NotASource, TooManySteps, NoRoomForResult}
use Rattle.program.specs.Headers.{is_source}
use Rattle.program.specs.Refusals.{unless, or_else}
use Rattle.labels.specs.Sets.{sets, secret_tables}
use Rattle.plan.specs.Planned.{plan_of}
use Rattle.program.specs.Programs.{code_of}
use Rattle.counting.specs.Counting.{most_steps}
use Rattle.conversion.specs.Sources.{result_by}
use Rattle.conversion.specs.Refusing.{hidden_by, first_wrong}

-- the smallest labels of a source: the secret registers on arriving at each place
abbrev pub smallest_labels : Header → List Instruction → ℕ → ℕ → Bool
smallest_labels h code = sets (plan_of h code)

-- what the code of a source becomes, by its smallest labels
abbrev pub result_of : Header → List Instruction → List Instruction
result_of h code = result_by (smallest_labels h code) h code

-- the kind and the number of instructions are the result's, all else is the source's
abbrev pub result_header : Header → ℕ → Header
result_header h n = record { kind = Converted; tables = h.tables; used = h.used; count = n; secret_entry = h.secret_entry }

-- the first place of a source that cannot be converted, by its smallest labels
abbrev pub place_refusal : Header → List Instruction → Bool → Option Refusal
place_refusal h code hides = first_wrong (secret_tables h.tables) (hidden_by hides) (smallest_labels h code) [] 0 code

-- a result that has too many steps, and then one that a list of so many entries cannot take
abbrev pub size_refusal : List Instruction → ℕ → Option Refusal
size_refusal result room = or_else (unless (nat_le (most_steps result) 1000000) TooManySteps 0) (unless (nat_le (length result) room) NoRoomForResult (length result))

-- what converting refuses, where the list has `room` entries
abbrev pub convert_refusal : Header → List Instruction → Bool → ℕ → Option Refusal
convert_refusal h code hides room = or_else (unless (is_source h.kind) NotASource 0) (or_else (place_refusal h code hides) (size_refusal (result_of h code) room))

-- a source that is not refused fills the list from entry 0, and later entries stay
pub record Accepted (source : Program) (hides : Bool) (before : List Instruction) (p : Program) : Type 0 where
  pub refusal : convert_refusal source.header (code_of source) hides (length before) ≡ None
  pub header : p.header ≡ result_header source.header (length (result_of source.header (code_of source)))
  pub list : vec_items p.list ≡ result_of source.header (code_of source) ++ drop (length (result_of source.header (code_of source))) before

-- a refusal hands the list back as it was
pub record Refused (source : Program) (hides : Bool) (before : List Instruction) (back : HandedBack) : Type 0 where
  pub refusal : convert_refusal source.header (code_of source) hides (length before) ≡ Some back.refusal
  pub list : vec_items back.list ≡ before

abbrev pub Converts : Program → Bool → List Instruction → Result Program HandedBack → Type 0
Converts source hides before (Ok p) = Accepted source hides before p
Converts source hides before (Err back) = Refused source hides before back
