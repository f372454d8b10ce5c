-- The labels of a small source reckoned, and what is refused by them.
use Rattle.std.proofs.Common.{◌≡◌, ℕ, suc, ◌+◌, ◌-◌, ◌*◌, ◌≤◌, Bool, true, List, [], ◌∷◌, length, replicate, Some, Option, ap, ◌∙◌, arith}
use Rattle.std.specs.Prelude.{nat_le}
use Rattle.instructions.specs.declared.Instruction.{Instruction}
use Rattle.program.specs.declared.header.Header.{Header}
use Rattle.program.specs.declared.refusal.Refusal.{Refusal}
use Rattle.program.specs.declared.refusal.Reason.{Reason}
use Rattle.program.specs.declared.refusal.Reason.TheVariants.{NotASource, NoRoomForResult}
use Rattle.program.specs.Headers.{is_source}
use Rattle.program.specs.Refusals.{refusal, unless, or_else}
use Rattle.labels.specs.Sets.{sets, secret_tables}
use Rattle.labels.specs.Plans.{settled, labels_of}
use Rattle.plan.specs.Planned.{plan_of}
use Rattle.groups.specs.Groups.{lengths}
use Rattle.conversion.specs.Conversion.{convert}
use Rattle.conversion.specs.Refusing.{hidden_by, first_wrong}
use Rattle.converter.specs.Converting.{result_of, size_refusal}
use Rattle.by_hand.specs.Routines.{Accepts, Refuses}

-- the passes allowed are more than four; how many more is not reckoned
four_below : (most : ℕ) → 4 ≤ most → (k : ℕ) × (most ≡ suc (suc (suc (suc k))))
four_below most h = (most - 4, omega arith)

-- what is reckoned in four passes, whatever number of further ones is allowed, is the plan
pub in_four : (h : Header) (code : List Instruction) (plan : List ℕ)
    → ((k : ℕ) → settled (secret_tables h.tables) code (suc (suc (suc (suc k)))) (h.secret_entry ∷ replicate (length code) 0) ≡ plan) → plan_of h code ≡ plan
unfolding labels_of
in_four h code plan reckoned =
    let p = four_below (65536 * (length code + 1)) (omega arith) in
    ap (λ most. settled (secret_tables h.tables) code most (h.secret_entry ∷ replicate (length code) 0)) p.1 ∙ reckoned p.0

-- what converting refuses by such a plan
abbrev pub refusal_by : Header → List Instruction → Bool → ℕ → List ℕ → Option Refusal
refusal_by h code hides room plan =
    or_else (unless (is_source h.kind) NotASource 0)
    (or_else (first_wrong (secret_tables h.tables) (hidden_by hides) (sets plan) [] 0 code) (size_refusal (convert (lengths h.tables) (sets plan) [] 0 code) room))

pub le_true : (a b : ℕ) → a ≤ b → nat_le a b ≡ true
le_true a b h = grind (arith)

pub accepts : (h : Header) (code : List Instruction) (hides : Bool) (long : ℕ) (plan : List ℕ) → plan_of h code ≡ plan
    → ((room : ℕ) → refusal_by h code hides room plan ≡ unless (nat_le long room) NoRoomForResult long) → Accepts h code hides long
accepts h code hides long plan e by room fits =
    ap (refusal_by h code hides room) e ∙ by room ∙ ap (λ c. unless c NoRoomForResult long) (le_true long room fits)

pub refuses : (h : Header) (code : List Instruction) (hides : Bool) (why : Reason) (p : ℕ) (plan : List ℕ) → plan_of h code ≡ plan
    → ((room : ℕ) → refusal_by h code hides room plan ≡ Some (refusal why p)) → Refuses h code hides why p
refuses h code hides why p plan e by room = ap (refusal_by h code hides room) e ∙ by room

pub result_by_plan : (h : Header) (code : List Instruction) (plan : List ℕ) → plan_of h code ≡ plan → result_of h code ≡ convert (lengths h.tables) (sets plan) [] 0 code
result_by_plan h code plan e = ap (λ l. convert (lengths h.tables) (sets l) [] 0 code) e
