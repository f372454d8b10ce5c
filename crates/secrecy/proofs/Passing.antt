-- What it means that an op is not refused.
use Rattle.std.proofs.Common.{◌≡◌, ℕ, Bool, true, false, cond, not, ◌&&◌, ◌||◌, Some, None, Option, refl, arith}
use Rattle.instructions.specs.declared.Op.TheVariants.{Load, Store}
use Rattle.program.specs.declared.refusal.Reason.{Reason}
use Rattle.program.specs.declared.refusal.Reason.TheVariants.{SecretIndex, PublicStore}
use Rattle.program.proofs.Refusals.{no_some}
use Rattle.conversion.specs.Refusing.{wrong_op}

passes : (c : Bool) (x : Reason) (o : Option Reason) → cond c (Some x) o ≡ None → (c ≡ false) × (o ≡ None)
passes true x o e = absurd (no_some e)
passes false x o e = (refl, e)

passing : (c : Bool) (x : Reason) (o : Option Reason) → c ≡ false → o ≡ None → cond c (Some x) o ≡ None
passing true x o e f = cc
passing false x o e f = f

hides : (a h : Bool) → (a && not h) ≡ false → a ≡ true → h ≡ true
hides a h e f = grind arith

hiding : (a h : Bool) → (a ≡ true → h ≡ true) → (a && not h) ≡ false
hiding true true f = refl
hiding true false f = grind (arith, f refl)
hiding false h f = refl

keeps : (s m d a : Bool) → (not s && (m || (d || a))) ≡ false → s ≡ false → (m ≡ false) × (d ≡ false) × (a ≡ false)
keeps s m d a e f = grind arith

keeping : (s m d a : Bool) → (s ≡ false → (m ≡ false) × (d ≡ false) × (a ≡ false)) → (not s && (m || (d || a))) ≡ false
keeping true m d a f = refl
keeping false m d a f = grind (arith, f refl)

module _ (secret hidden : ℕ → Bool) where
  -- a secret index is hidden
  abbrev pub Hides : (ℕ → Bool) → ℕ → ℕ → Type 0
  Hides A a t = A a ≡ true → hidden t ≡ true

  -- what goes into a public table is public
  abbrev pub Shows : (ℕ → Bool) → Bool → ℕ → ℕ → ℕ → Type 0
  Shows A m d a t = secret t ≡ false → (m ≡ false) × (A d ≡ false) × (A a ≡ false)

  pub load_passes : (A : ℕ → Bool) (m : Bool) (d a t : ℕ) → wrong_op secret hidden A m (Load d a t) ≡ None → Hides A a t
  load_passes A m d a t e = hides (A a) (hidden t) ((passes _ SecretIndex None e).0)

  pub load_passing : (A : ℕ → Bool) (m : Bool) (d a t : ℕ) → Hides A a t → wrong_op secret hidden A m (Load d a t) ≡ None
  load_passing A m d a t h = passing _ SecretIndex None (hiding (A a) (hidden t) h) refl

  pub store_passes : (A : ℕ → Bool) (m : Bool) (d a t : ℕ) → wrong_op secret hidden A m (Store d a t) ≡ None → Hides A a t × Shows A m d a t
  store_passes A m d a t e =
      let f = passes _ SecretIndex _ e in
      (hides (A a) (hidden t) f.0, keeps (secret t) m (A d) (A a) ((passes _ PublicStore None f.1).0))

  pub store_passing : (A : ℕ → Bool) (m : Bool) (d a t : ℕ) → Hides A a t → Shows A m d a t → wrong_op secret hidden A m (Store d a t) ≡ None
  store_passing A m d a t h k =
      passing _ SecretIndex _ (hiding (A a) (hidden t) h) (passing _ PublicStore None (keeping (secret t) m (A d) (A a) k) refl)
