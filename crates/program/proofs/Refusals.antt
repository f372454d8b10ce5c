-- Tests that do not refuse.
use Rattle.std.proofs.Common.{◌≡◌, ℕ, ◌<◌, Bool, true, false, ltb, List, length, is_some, Some, None, Option, refl, arith}
use Rattle.std.proofs.lemmas.Bool.{ltb-true}
use Rattle.program.specs.declared.opening.Opening.{Opening}
use Rattle.program.specs.declared.refusal.Reason.{Reason}
use Rattle.program.specs.declared.refusal.Reason.TheVariants.{TooDeep}
use Rattle.program.specs.declared.refusal.Refusal.{Refusal}
use Rattle.program.specs.Refusals.{unless, or_else}

pub no_some : {X : Type 0} {x : X} → Some x ≡ None → ⊥
no_some e = let z : ◌≡◌ {A = ℕ} 0 1 = cc in omega arith

pub none : {X : Type 0} (x : Option X) → is_some x ≡ false → x ≡ None
none None e = refl
none (Some x) e = let z : ◌≡◌ {A = ℕ} 0 1 = cc in absurd (omega arith)

-- what is not refused passed its test
pub passed : (good : Bool) (why : Reason) (p : ℕ) → unless good why p ≡ None → good ≡ true
passed true why p e = refl
passed false why p e = absurd (no_some e)

-- two checks refuse nothing only where neither does
pub both : (x y : Option Refusal) → or_else x y ≡ None → (x ≡ None) × (y ≡ None)
both None y e = (refl, e)
both (Some r) y e = absurd (no_some e)

-- so of a test and what comes after it
pub passed_first : (good : Bool) (why : Reason) (p : ℕ) (later : Option Refusal) → or_else (unless good why p) later ≡ None → (good ≡ true) × (later ≡ None)
passed_first good why p later e = let b = both _ later e in (passed good why p b.0, b.1)

-- an opening that is not refused has room
pub opens : (os : List Opening) (p : ℕ) {y : Option Refusal} → or_else (unless (ltb (length os) 8) TooDeep p) y ≡ None → (length os < 8) × (y ≡ None)
opens os p {y} e = let b = passed_first (ltb (length os) 8) TooDeep p y e in (ltb-true (length os) 8 b.0, b.1)
