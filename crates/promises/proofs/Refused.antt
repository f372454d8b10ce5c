-- What is known where nothing was refused.
use Rattle.std.proofs.Common.{◌≡◌, Bool, true, false, List, ◌∷◌, None, refl, true≢false}
use Rattle.program.specs.declared.refusal.Reason.{Reason}
use Rattle.program.proofs.Refusals.{no_some}
use Rattle.calls.specs.Calls.{Test, ◌⇒◌, first_of}

pub differ : {X : Type 0} → true ≡ false → X
differ h = absurd (true≢false h)

-- the first test does not hold
pub fails : (bad : Bool) (why : Reason) (tests : List Test) → first_of ((bad ⇒ why) ∷ tests) ≡ None → bad ≡ false
fails false why tests h = refl
fails true why tests h = absurd (no_some h)

-- nor do the rest
pub rest : (bad : Bool) (why : Reason) (tests : List Test) → first_of ((bad ⇒ why) ∷ tests) ≡ None → first_of tests ≡ None
rest false why tests h = h
rest true why tests h = absurd (no_some h)
