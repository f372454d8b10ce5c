-- Registers that agree outside a set give the same where no register of the set is read.
use Rattle.std.proofs.Common.{◌≡◌, ℕ, Bool, true, false, cond, ◌||◌, ◌==◌, refl, ap, ap₂}
use Rattle.std.proofs.lemmas.Bool.{or_parts}
use Rattle.instructions.specs.declared.Value.{Value}
use Rattle.instructions.specs.declared.Value.TheVariants.{Const, Move, Binary, Shift}
use Rattle.labels.specs.Kinds.{secrecy}
use Rattle.labels.specs.Rules.{read_by, put}
use Rattle.machine.specs.States.{changed}
use Rattle.machine.specs.Machine.{if_not0}
use Rattle.machine.specs.Words.{calc, turned, value_of}

-- two registers get the same where the test is passed, and stay the same elsewhere
cond_same : (c a b : Bool) (u v w z : ℕ) → (a ≡ false → u ≡ v) → (b ≡ false → w ≡ z) → cond c a b ≡ false → cond c u w ≡ cond c v z
cond_same true a b u v w z f g e = f e
cond_same false a b u v w z f g e = g e

module _ (A : ℕ → Bool) (f g : ℕ → ℕ) (h : (r : ℕ) → A r ≡ false → f r ≡ g r) where
  pub value_same : (v : Value) → read_by secrecy v A ≡ false → value_of v f ≡ value_of v g
  value_same (Const k) e = refl
  value_same (Move a) e = h a e
  value_same (Binary op a b) e = let p = or_parts (A a) (A b) e in ap₂ (calc op) (h a p.0) (h b p.1)
  value_same (Shift op a k) e = ap (λ x. turned op x k) (h a e)

  pub pick_same : (d a b : ℕ) → (A d || (A a || A b)) ≡ false → if_not0 (f a) (f b) (f d) ≡ if_not0 (g a) (g b) (g d)
  pick_same d a b e =
      let p = or_parts (A d) (A a || A b) e in
      let q = or_parts (A a) (A b) p.1 in
      rw (h d p.0, h a q.0, h b q.1)

  -- a register that gets the same, if what it gets is public
  pub put_same : (d u v : ℕ) (l : Bool) → (l ≡ false → u ≡ v) → (r : ℕ) → put secrecy A d l r ≡ false → changed f d u r ≡ changed g d v r
  put_same d u v l k r e = cond_same (r == d) l (A r) u v (f r) (g r) k (h r) e
