-- How long the part of the result is that each place became.
use Rattle.std.specs.Prelude.{ℕ, zero, suc, Bool, List, [], ◌∷◌, length}
use Rattle.instructions.specs.declared.Instruction.{Instruction}
use Rattle.program.specs.declared.header.Header.{Header}
use Rattle.program.specs.declared.opening.Marked.{Marked}
use Rattle.labels.specs.Kinds.{secrecy}
use Rattle.labels.specs.Passes.{opens}
use Rattle.groups.specs.Groups.{lengths}
use Rattle.conversion.specs.Conversion.{becomes}
use Rattle.converter.specs.Converting.{smallest_labels}

-- of what instructions from place p on become
abbrev pub part_lengths : (ℕ → ℕ) → (ℕ → ℕ → Bool) → List (Marked Bool) → ℕ → List Instruction → List ℕ
part_lengths long S ks p [] = []
part_lengths long S ks p (i ∷ is) = length (becomes long (S p) ks p i) ∷ part_lengths long S (opens secrecy (S p) ks p i) (suc p) is

-- what the instruction k places behind p becomes
abbrev pub part_at : (ℕ → ℕ) → (ℕ → ℕ → Bool) → List (Marked Bool) → ℕ → List Instruction → ℕ → List Instruction
part_at long S ks p [] k = []
part_at long S ks p (i ∷ is) zero = becomes long (S p) ks p i
part_at long S ks p (i ∷ is) (suc k) = part_at long S (opens secrecy (S p) ks p i) (suc p) is k

-- of a source, by its smallest labels
abbrev pub parts_of : Header → List Instruction → List ℕ
parts_of h code = part_lengths (lengths h.tables) (smallest_labels h code) [] 0 code

-- what place k of a source becomes, by its smallest labels
abbrev pub part_of : Header → List Instruction → ℕ → List Instruction
part_of h code k = part_at (lengths h.tables) (smallest_labels h code) [] 0 code k
