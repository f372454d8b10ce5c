-- Two lists in which the same item is set.
use Rattle.std.proofs.Common.{◌≡◌, ℕ, zero, suc, List, [], ◌∷◌, length, set, refl, ap, arith}
use Rattle.machine.specs.States.{held}

pub set_both : (l m : List ℕ) (d v w k : ℕ) → length l ≡ length m → (k ≡ d → v ≡ w) → held l k ≡ held m k → held (set l d v) k ≡ held (set m d w) k
set_both [] [] d v w k n h e = refl
set_both [] (y ∷ ys) d v w k n h e = absurd (omega arith)
set_both (x ∷ xs) [] d v w k n h e = absurd (omega arith)
set_both (x ∷ xs) (y ∷ ys) zero v w zero n h e = h refl
set_both (x ∷ xs) (y ∷ ys) zero v w (suc k) n h e = e
set_both (x ∷ xs) (y ∷ ys) (suc d) v w zero n h e = e
set_both (x ∷ xs) (y ∷ ys) (suc d) v w (suc k) n h e = set_both xs ys d v w k (omega arith) (λ q. h (ap suc q)) e
