-- What holds of the smallest labels.
use Rattle.std.specs.Prelude.{◌≡◌, ℕ, suc, ◌+◌, ◌*◌, ◌<◌, ◌≤◌, Bool, true, false, List, [], ◌∷◌, length, drop, slice_index_or}
use Rattle.instructions.specs.declared.Value.TheVariants.{Const}
use Rattle.instructions.specs.declared.Op.TheVariants.{Set, Load}
use Rattle.instructions.specs.declared.Instruction.{Instruction}
use Rattle.instructions.specs.declared.Instruction.TheVariants.{Do, If, Else, End, Again}
use Rattle.program.specs.declared.opening.Opening.{Opening}
use Rattle.program.specs.declared.opening.Opening.TheVariants.{Then}
use Rattle.program.specs.Openings.{around}
use Rattle.program.specs.Bounds.{bound}
use Rattle.labels.specs.Kinds.{LabelKind, Lawful, Rises, secrecy}
use Rattle.labels.specs.Rules.{Sub, Solves, Smallest}
use Rattle.labels.specs.Passes.{sweep, onset, passes, Rising}
use Rattle.labels.specs.Sets.{bits, sets}
use Rattle.labels.specs.Plans.{labels_of}

-- every source has smallest sets: the numbers that are reckoned
abbrev pub SmallestExists : Type 0
SmallestExists =
    (used : ℕ) (tables : ℕ → Bool) (entry : ℕ) (code : List Instruction) → entry < 65536 → ((p : ℕ) → p < length code → bound 16 used (slice_index_or code p Again) ≡ true)
    → Smallest secrecy tables (bits entry) code (sets (labels_of tables entry code))

-- of every kind of label: what passes need, and what the smallest labels are
pub record Theory {L : Type 0} (K : LabelKind L) : Type 0 where
  -- a pass stays within every solution
  pub rising : (tables entry : ℕ → L) (code : List Instruction) (S : ℕ → ℕ → L) → Rising K tables entry code S → Rising K tables entry code (sweep K tables [] 0 code S)
  -- where a pass changes nothing, the smallest solution is reached
  pub reached : (tables entry : ℕ → L) (code : List Instruction) (S : ℕ → ℕ → L) → Rising K tables entry code S → sweep K tables [] 0 code S ≡ S → Smallest K tables entry code S
  -- with a bounded number of rises passes come to an end, and a smallest solution exists
  pub exists : (most : ℕ) → Rises K most
      → (registers used : ℕ) (tables entry : ℕ → L) (code : List Instruction) → ((r : ℕ) → registers ≤ r → entry r ≡ K.least) → ((p : ℕ) → p < length code → bound registers used (slice_index_or code p Again) ≡ true)
      → Smallest K tables entry code (passes K tables code ((length code + 1) * (registers * most)) (onset K entry))
  -- there is one smallest solution at most
  pub unique : (tables entry : ℕ → L) (code : List Instruction) (S Z : ℕ → ℕ → L) → Smallest K tables entry code S → Smallest K tables entry code Z → S ≡ Z
  -- no move enters place 0
  pub start : (tables entry : ℕ → L) (code : List Instruction) (S : ℕ → ℕ → L) → Smallest K tables entry code S → S 0 ≡ entry
  -- the else arm of a secret if starts from what its then arm left, too
  pub arms : (tables entry : ℕ → L) (code : List Instruction) (S : ℕ → ℕ → L) → Solves K tables entry code S
      → (p q a : ℕ) (is : List Instruction) (os : List Opening) → drop p code ≡ Else ∷ is → around code p ≡ Then q a ∷ os → K.secret (S q a) ≡ true → Sub K (S p) (S (suc p))

-- if 1; const 2,0; else; load 0,2,0; end
abbrev pub with_const : List Instruction
with_const = If 1 ∷ Do (Set 2 (Const 0)) ∷ Else ∷ Do (Load 0 2 0) ∷ End ∷ []

-- if 1; else; load 0,2,0; end
abbrev pub without_const : List Instruction
without_const = If 1 ∷ Else ∷ Do (Load 0 2 0) ∷ End ∷ []

-- only register 1 is secret at first, and no table: with the const, register 2 is secret at the load and was not
-- before the if; without the const it is not secret at the load
pub record ArmsByHand : Type 0 where
  pub with : (S : ℕ → ℕ → Bool) → Smallest secrecy (λ t. false) (bits 2) with_const S → (S 3 2 ≡ true) × (S 0 2 ≡ false)
  pub without : (S : ℕ → ℕ → Bool) → Smallest secrecy (λ t. false) (bits 2) without_const S → S 2 2 ≡ false

-- so it is with every kind of label over these
abbrev pub EveryKind : Type 0 → Type 0
EveryKind L = (K : LabelKind L) → Lawful K → Theory K
