-- What two parts of runs come to, side by side.
use Rattle.std.proofs.Common.{◌≡◌, ℕ, Bool, true, List, ◌⊎◌, inr}
use Rattle.program.specs.declared.header.Table.{Table}
use Rattle.machine.specs.States.{State}
use Rattle.machine.specs.Machine.{Out, fine, fault}
use Rattle.machine.specs.Nested.{and_then}
use Rattle.secrecy.specs.Alike.{Alike}
use Rattle.secrecy.specs.Together.{all_secret}

module _ (tables : List Table) (secret hidden : ℕ → Bool) where
  -- some table is hidden, so one of two runs may fault at a secret index
  abbrev pub Hiding : Type 0
  Hiding = (t : ℕ) × (hidden t ≡ true)

  -- both go on, and something holds of their states; or both fault at one place and agree on cells and trace. They
  -- part only if a table is hidden
  abbrev pub Meets : (State → State → Type 0) → Out → Out → Type 0
  Meets P (fine x) (fine y) = P x y
  Meets P (fine x) (fault q y) = Hiding
  Meets P (fault p x) (fine y) = Hiding
  Meets P (fault p x) (fault q y) = ((p ≡ q) × Alike tables secret hidden all_secret x y) ⊎ Hiding

  parts_left : (P : State → State → Type 0) (o : Out) (p : ℕ) (x : State) → Hiding → Meets P (fault p x) o
  parts_left P (fine y) p x h = h
  parts_left P (fault q y) p x h = inr h

  parts_right : (P : State → State → Type 0) (o : Out) (q : ℕ) (y : State) → Hiding → Meets P o (fault q y)
  parts_right P (fine x) q y h = h
  parts_right P (fault p x) q y h = inr h

  pub then : (P Q : State → State → Type 0) (o u : Out) (f g : State → Out) → Meets P o u → ((x y : State) → P x y → Meets Q (f x) (g y)) → Meets Q (and_then o f) (and_then u g)
  then P Q (fine x) (fine y) f g h k = k x y h
  then P Q (fine x) (fault q y) f g h k = parts_right Q (f x) q y h
  then P Q (fault p x) (fine y) f g h k = parts_left Q (g y) p x h
  then P Q (fault p x) (fault q y) f g h k = h
