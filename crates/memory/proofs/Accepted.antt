-- Accesses that are accepted, and those that are not.
use Rattle.std.proofs.Common.{◌≡◌, ℕ, ◌+◌, ◌≤◌, Bool, true, ltb, leb, length, get_or, set, None, Ok, ap}
use Rattle.std.proofs.lemmas.Bool.{lt-ltb, le-leb, ltb-true, leb-true, and_from, and_parts}
use Rattle.program.specs.declared.refusal.Reason.TheVariants.{OutsideTable, NoRoomForMarks}
use Rattle.program.specs.Refusals.{unless, or_else}
use Rattle.program.proofs.Refusals.{passed, passed_first}
use Rattle.memory.specs.declared.Access.{Access}
use Rattle.memory.specs.declared.Access.TheVariants.{Read, Write}
use Rattle.memory.specs.Description.{Description, free, marked}
use Rattle.memory.specs.Accesses.{inside, denial, denied, answered, left, read_answer, read_after, write_answer, write_after}
use Rattle.memory.specs.Laws.{Within}

module _ (size base len off cost room : ℕ) where
  pub denial_none : inside size base len off ≡ true → cost ≤ room → denial size base len off cost room ≡ None
  unfolding denial
  denial_none e h = let f = le-leb cost room h in rw (e, f)

tests_pass : (x y : Bool) → or_else (unless x OutsideTable 0) (unless y NoRoomForMarks 0) ≡ None → (x ≡ true) × (y ≡ true)
tests_pass x y e = let b = passed_first x OutsideTable 0 _ e in (b.0, passed y NoRoomForMarks 0 b.1)

-- what is known of an access that is not denied
pub accepted_within : (d : Description) (k : Access) (base len off : ℕ) → denied d k base len off ≡ None → Within d base len off × (d.rules.cost k len ≤ free d)
unfolding denial
accepted_within d k base len off e =
    let p = tests_pass (inside (length d.cells) base len off) (leb (d.rules.cost k len) (free d)) e in
    let q = and_parts (ltb off len) (leb (base + len) (length d.cells)) p.0 in
    (record { below = ltb-true off len q.0; fits = leb-true (base + len) (length d.cells) q.1 }, leb-true (d.rules.cost k len) (free d) p.1)

pub within_inside : {d : Description} {base len off : ℕ} → Within d base len off → inside (length d.cells) base len off ≡ true
within_inside {d} {base} {len} {off} w =
    and_from (ltb off len) (leb (base + len) (length d.cells)) (lt-ltb off len w.below) (le-leb (base + len) (length d.cells) w.fits)

-- an access within the cells, with room for its marks
module _ (d : Description) (base len off : ℕ) (w : Within d base len off) where
  pub accepted : (k : Access) → d.rules.cost k len ≤ free d → denied d k base len off ≡ None
  accepted k room = denial_none (length d.cells) base len off (d.rules.cost k len) (free d) (within_inside w) room

  pub read_answers : d.rules.cost Read len ≤ free d → read_answer d base len off ≡ Ok (get_or d.cells (base + off) 0)
  read_answers room = ap (λ x. answered x (get_or d.cells (base + off) 0)) (accepted Read room)

  pub read_leaves : d.rules.cost Read len ≤ free d → read_after d base len off ≡ marked d d.cells (d.rules.shows Read base len off)
  read_leaves room = ap (λ x. left x d (marked d d.cells (d.rules.shows Read base len off))) (accepted Read room)

  pub write_answers : d.rules.cost Write len ≤ free d → write_answer d base len off ≡ Ok tt
  write_answers room = ap (λ x. answered x tt) (accepted Write room)

  pub write_leaves : (word : ℕ) → d.rules.cost Write len ≤ free d → write_after d base len off word ≡ marked d (set d.cells (base + off) word) (d.rules.shows Write base len off)
  write_leaves word room = ap (λ x. left x d (marked d (set d.cells (base + off) word) (d.rules.shows Write base len off))) (accepted Write room)
