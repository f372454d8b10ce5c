-- Tests over the numbers from 0.
use Rattle.std.specs.Prelude.{ℕ, zero, suc, Bool, true, ◌&&◌, None, Option}
use Rattle.program.specs.declared.refusal.Reason.{Reason}
use Rattle.program.specs.declared.refusal.Refusal.{Refusal}
use Rattle.program.specs.Refusals.{unless, or_else}

-- every number below n passes the test
unfoldable pub all_below : (ℕ → Bool) → ℕ → Bool
all_below good zero = true
all_below good (suc n) = all_below good n && good n

-- refused at the first of the next n places from p that fails the test
abbrev pub first_failing : Reason → (ℕ → Bool) → ℕ → ℕ → Option Refusal
first_failing why good p zero = None
first_failing why good p (suc n) = or_else (unless (good p) why p) (first_failing why good (suc p) n)
