-- Cases that were worked by hand. In all of them table 0 has four cells; where `secret` is left open, it is secret
-- or not.
use Rattle.std.specs.Prelude.{◌≡◌, ℕ, ◌<◌, ◌≤◌, Bool, true, false, List, [], ◌∷◌, length, Some, None}
use Rattle.instructions.specs.declared.BinaryOp.TheVariants.{Xor, Same}
use Rattle.instructions.specs.declared.Value.TheVariants.{Const, Binary}
use Rattle.instructions.specs.declared.Op.TheVariants.{Set, Pick}
use Rattle.instructions.specs.declared.Instruction.{Instruction}
use Rattle.instructions.specs.declared.Instruction.TheVariants.{Do}
use Rattle.program.specs.declared.refusal.Reason.TheVariants.{SecretIndex, TooManySteps}
use Rattle.program.specs.Refusals.{refusal}
use Rattle.memory.specs.Description.{Mark, Description}
use Rattle.flat.specs.Flat.{flat}
use Rattle.full_scan.specs.Scan.{scan_over}
use Rattle.counting.specs.Counting.{most_steps}
use Rattle.labels.specs.Theorems.{with_const, without_const}
use Rattle.converter.specs.Converting.{result_of}
use Rattle.conversion.specs.Sources.{IsSource}
use Rattle.run.specs.Run.{refusal as run_refusal}
use Rattle.by_hand.specs.declared.routine.Routine.{Routine}
use Rattle.by_hand.specs.SmallImages.{SmallImages}
use Rattle.by_hand.specs.Routines.{choose, lookup, update, walk, rounds, too_many_rounds, instructions, four_cells, source, after, steps_of, shown, Accepts, Refuses}

-- const 25,0; same 26,1,25; same 16,26,25; const 25,7; pick 0,16,25; const 25,1; xor 16,16,25; const 25,9; pick 0,16,25
abbrev pub straightened : List Instruction
straightened =
    Do (Set 25 (Const 0)) ∷ Do (Set 26 (Binary Same 1 25)) ∷ Do (Set 16 (Binary Same 26 25))
    ∷ Do (Set 25 (Const 7)) ∷ Do (Pick 0 16 25)
    ∷ Do (Set 25 (Const 1)) ∷ Do (Set 16 (Binary Xor 16 25))
    ∷ Do (Set 25 (Const 9)) ∷ Do (Pick 0 16 25) ∷ []

-- an if by register 1, which is secret, becomes straight code: from 5 register 0 ends as 7, and from 0 as 9
pub record SecretIf (secret : Bool) : Type 0 where
  pub accepted : (hides : Bool) → Accepts (source secret 2 choose) choose hides 9
  pub result : result_of (source secret 2 choose) choose ≡ straightened
  pub taken : (d : Description) → (after secret straightened 5 d).registers 0 ≡ 7
  pub passed : (d : Description) → (after secret straightened 0 d).registers 0 ≡ 9

-- the same code with register 1 public is copied: at most four steps, and three from 0
pub record PublicIf (secret : Bool) : Type 0 where
  pub accepted : (hides : Bool) → Accepts (source secret 0 choose) choose hides 5
  pub result : result_of (source secret 0 choose) choose ≡ choose
  pub most : most_steps choose ≡ 4
  pub passed : (d : Description) → steps_of secret choose 0 d ≡ 3

-- a load from a secret table by a public index, converted
abbrev pub guarded : List Instruction
guarded = result_of (source true 0 lookup) lookup

-- it has eleven instructions; an index in range shows that cell, on every flat memory
pub record LoadInRange : Type 0 where
  pub accepted : (hides : Bool) → Accepts (source true 0 lookup) lookup hides 11
  pub long : length guarded ≡ 11
  pub marks : (cells : List ℕ) (list : List Mark) (count : ℕ) → shown true guarded 3 (flat cells list count) ≡ 3 ∷ []

-- an index past the end shows cell 0, and register 24 keeps the place, and one added
pub record LoadPastEnd : Type 0 where
  pub marks : (cells : List ℕ) (list : List Mark) (count : ℕ) → shown true guarded 4 (flat cells list count) ≡ 0 ∷ []
  pub noted : (d : Description) → (after true guarded 4 d).registers 24 ≡ 1

-- a load by a secret index is refused where the memory does not hide it; a full scan shows every cell, whatever the
-- index is
pub record SecretLoad : Type 0 where
  pub refused : Refuses (source true 2 lookup) lookup false SecretIndex 0
  pub accepted : Accepts (source true 2 lookup) lookup true 11
  pub marks : (index : ℕ) (cells : List ℕ) (list : List Mark) (count : ℕ)
      → shown true (result_of (source true 2 lookup) lookup) index (scan_over (flat cells list count)) ≡ 0 ∷ 1 ∷ 2 ∷ 3 ∷ []

-- so is a store, which reads the cell first: a full scan shows each cell for the read, and twice for the write
pub record SecretStore : Type 0 where
  pub refused : Refuses (source true 2 update) update false SecretIndex 0
  pub accepted : Accepts (source true 2 update) update true 13
  pub marks : (index : ℕ) (cells : List ℕ) (list : List Mark) (count : ℕ)
      → shown true (result_of (source true 2 update) update) index (scan_over (flat cells list count)) ≡ 0 ∷ 1 ∷ 2 ∷ 3 ∷ 0 ∷ 0 ∷ 1 ∷ 1 ∷ 2 ∷ 2 ∷ 3 ∷ 3 ∷ []

-- a then arm that writes register 2 makes it a secret index in the else arm
pub record ArmWithConst (secret : Bool) : Type 0 where
  pub refused : Refuses (source secret 2 with_const) with_const false SecretIndex 3

-- a then arm that does not leaves it public there
pub record ArmWithoutConst (secret : Bool) : Type 0 where
  pub accepted : (hides : Bool) → Accepts (source secret 2 without_const) without_const hides 18

-- an index that a round makes secret is so in the next round
pub record SecretWalk (secret : Bool) : Type 0 where
  pub refused : Refuses (source secret 8 walk) walk false SecretIndex 1

-- a million steps at the most are accepted, by the converter and by a run
pub record MostRounds (secret : Bool) : Type 0 where
  pub most : most_steps rounds ≡ 1000000
  pub result : result_of (source secret 0 rounds) rounds ≡ rounds
  pub accepted : (hides : Bool) → Accepts (source secret 0 rounds) rounds hides 4
  pub run : (d : Description) (room : ℕ) → 4 ≤ length d.cells → 1000000 ≤ room → run_refusal (four_cells secret) rounds d room ≡ None

-- one round more is refused by both
pub record TooManyRounds (secret : Bool) : Type 0 where
  pub refused : (hides : Bool) → Refuses (source secret 0 too_many_rounds) too_many_rounds hides TooManySteps 0
  pub run : (d : Description) (room : ℕ) → run_refusal (four_cells secret) too_many_rounds d room ≡ Some (refusal TooManySteps 0)

-- all of them
pub record ByHand : Type 0 where
  pub secret_if : (secret : Bool) → SecretIf secret
  pub public_if : (secret : Bool) → PublicIf secret
  pub load_in_range : LoadInRange
  pub load_past_end : LoadPastEnd
  pub secret_load : SecretLoad
  pub secret_store : SecretStore
  pub arm_with_const : (secret : Bool) → ArmWithConst secret
  pub arm_without_const : (secret : Bool) → ArmWithoutConst secret
  pub secret_walk : (secret : Bool) → SecretWalk secret
  pub most_rounds : (secret : Bool) → MostRounds secret
  pub too_many_rounds : (secret : Bool) → TooManyRounds secret
  pub small_images : SmallImages
  -- each of the routines is a source, whatever entry registers are secret
  pub sources : (routine : Routine) (secret : Bool) (entry : ℕ) → entry < 65536 → IsSource (source secret entry (instructions routine)) (instructions routine)
