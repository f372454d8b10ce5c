-- The load by a public index, and the load and the store by a secret one.
use Rattle.std.proofs.Common.{◌≡◌, ℕ, zero, suc, true, false, List, [], ◌∷◌, length, drop, refl, ap, ◌∙◌, arith}
use Rattle.instructions.specs.declared.Instruction.{Instruction}
use Rattle.labels.specs.Sets.{sets}
use Rattle.plan.specs.Planned.{plan_of}
use Rattle.groups.specs.Groups.{lengths}
use Rattle.conversion.specs.Conversion.{convert}
use Rattle.memory.specs.Description.{Mark}
use Rattle.flat.specs.Flat.{flat}
use Rattle.full_scan.specs.Scan.{scan_over}
use Rattle.run.specs.Run.{marks_of}
use Rattle.by_hand.specs.Routines.{lookup, update, four_cells, source, after, shown}
use Rattle.by_hand.specs.ByHand.{LoadInRange, LoadPastEnd, SecretLoad, SecretStore}
use Rattle.by_hand.proofs.Beyond.{beyond}
use Rattle.by_hand.proofs.Reckoned.{in_four, accepts, refuses}

-- what code becomes by such a plan
abbrev by_plan : List Instruction → List ℕ → List Instruction
by_plan code plan = convert (lengths (four_cells true)) (sets plan) [] 0 code

public_plan : plan_of (source true 0 lookup) lookup ≡ 0 ∷ 1 ∷ []
public_plan = in_four (source true 0 lookup) lookup (0 ∷ 1 ∷ []) (λ k. refl)

pub load_in_range : LoadInRange
load_in_range = record {
  accepted = λ hides. accepts (source true 0 lookup) lookup hides 11 _ public_plan (λ room. refl);
  long = ap (λ plan. length (by_plan lookup plan)) public_plan;
  marks = λ cells list count. ap (λ plan. shown true (by_plan lookup plan) 3 (flat cells list count)) public_plan;
}

pub load_past_end : LoadPastEnd
load_past_end = record {
  marks = λ cells list count. ap (λ plan. shown true (by_plan lookup plan) 4 (flat cells list count)) public_plan;
  noted = λ d. ap (λ plan. (after true (by_plan lookup plan) 4 d).registers 24) public_plan;
}

load_plan : plan_of (source true 2 lookup) lookup ≡ 2 ∷ 3 ∷ []
load_plan = in_four (source true 2 lookup) lookup (2 ∷ 3 ∷ []) (λ k. refl)

-- by its number for the four cells, and past them at offset 0
load_marks : (index : ℕ) (cells : List ℕ) (list : List Mark) (count : ℕ)
    → shown true (by_plan lookup (2 ∷ 3 ∷ [])) index (scan_over (flat cells list count)) ≡ 0 ∷ 1 ∷ 2 ∷ 3 ∷ []
load_marks zero cells list count = refl
load_marks (suc zero) cells list count = refl
load_marks (suc (suc zero)) cells list count = refl
load_marks (suc (suc (suc zero))) cells list count = refl
load_marks (suc (suc (suc (suc index)))) cells list count =
    let d = scan_over (flat cells list count) in
    beyond (drop 2 (by_plan lookup (2 ∷ 3 ∷ []))) 9 (suc (suc (suc (suc index)))) d.cells (λ s. marks_of (four_cells true) d.rules.shows s.trace) (omega arith)

pub secret_load : SecretLoad
secret_load = record {
  refused = refuses (source true 2 lookup) lookup false _ 0 _ load_plan (λ room. refl);
  accepted = accepts (source true 2 lookup) lookup true 11 _ load_plan (λ room. refl);
  marks = λ index cells list count.
      ap (λ plan. shown true (by_plan lookup plan) index (scan_over (flat cells list count))) load_plan ∙ load_marks index cells list count;
}

store_plan : plan_of (source true 2 update) update ≡ 2 ∷ 2 ∷ []
store_plan = in_four (source true 2 update) update (2 ∷ 2 ∷ []) (λ k. refl)

store_marks : (index : ℕ) (cells : List ℕ) (list : List Mark) (count : ℕ)
    → shown true (by_plan update (2 ∷ 2 ∷ [])) index (scan_over (flat cells list count)) ≡ 0 ∷ 1 ∷ 2 ∷ 3 ∷ 0 ∷ 0 ∷ 1 ∷ 1 ∷ 2 ∷ 2 ∷ 3 ∷ 3 ∷ []
store_marks zero cells list count = refl
store_marks (suc zero) cells list count = refl
store_marks (suc (suc zero)) cells list count = refl
store_marks (suc (suc (suc zero))) cells list count = refl
store_marks (suc (suc (suc (suc index)))) cells list count =
    let d = scan_over (flat cells list count) in
    beyond (drop 2 (by_plan update (2 ∷ 2 ∷ []))) 11 (suc (suc (suc (suc index)))) d.cells (λ s. marks_of (four_cells true) d.rules.shows s.trace) (omega arith)

pub secret_store : SecretStore
secret_store = record {
  refused = refuses (source true 2 update) update false _ 0 _ store_plan (λ room. refl);
  accepted = accepts (source true 2 update) update true 13 _ store_plan (λ room. refl);
  marks = λ index cells list count.
      ap (λ plan. shown true (by_plan update plan) index (scan_over (flat cells list count))) store_plan ∙ store_marks index cells list count;
}
