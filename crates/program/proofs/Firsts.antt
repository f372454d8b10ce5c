-- Tests over the numbers from 0: how a loop comes by them, and what they tell.
use Rattle.std.proofs.Common.{◌≡◌, ℕ, zero, suc, ◌+◌, ◌<◌, ◌≤◌, Bool, true, false, ◌&&◌, Some, None, refl, ap, ◌∙◌, ⊎_elim, arith}
use Rattle.std.proofs.lemmas.Bool.{cases_lt, and_from, and_parts}
use Rattle.program.specs.declared.refusal.Reason.{Reason}
use Rattle.program.proofs.Refusals.{passed_first}
use Rattle.program.specs.Refusals.{refusal, unless, or_else}
use Rattle.program.specs.Firsts.{all_below, first_failing}

pub all_true : (good : ℕ → Bool) (n : ℕ) → ((k : ℕ) → k < n → good k ≡ true) → all_below good n ≡ true
unfolding all_below
all_true good zero h = refl
all_true good (suc n) h = and_from (all_below good n) (good n) (all_true good n (λ k l. h k (omega arith))) (h n (omega arith))

and_false : (a b : Bool) → b ≡ false → a && b ≡ false
and_false true b e = e
and_false false b e = refl

false_and : (a b : Bool) → a ≡ false → a && b ≡ false
false_and a b e = ap (λ x. x && b) e

pub all_false : (good : ℕ → Bool) (n p : ℕ) → p < n → good p ≡ false → all_below good n ≡ false
unfolding all_below
all_false good zero p h e = absurd (omega arith)
all_false good (suc n) p h e =
    ⊎_elim
    (λ (lt : p < n). false_and (all_below good n) (good n) (all_false good n p lt e))
    (λ (ge : n ≤ p). let q : n ≡ p = omega arith in and_false (all_below good n) (good n) (ap good q ∙ e))
    (cases_lt p n)

pub all_tells : (good : ℕ → Bool) (n : ℕ) → all_below good n ≡ true → (k : ℕ) → k < n → good k ≡ true
unfolding all_below
all_tells good zero e k h = absurd (omega arith)
all_tells good (suc n) e k h =
    let both = and_parts (all_below good n) (good n) e in
    ⊎_elim
    (λ (lt : k < n). all_tells good n both.0 k lt)
    (λ (ge : n ≤ k). let q : k ≡ n = omega arith in ap good q ∙ both.1)
    (cases_lt k n)

module _ (why : Reason) (good : ℕ → Bool) where
  pub failing_at : (p n q : ℕ) → p ≤ q → q < p + n → ((k : ℕ) → p ≤ k → k < q → good k ≡ true) → good q ≡ false → first_failing why good p n ≡ Some (refusal why q)
  failing_at p zero q lo hi before bad = absurd (omega arith)
  failing_at p (suc n) q lo hi before bad =
      ⊎_elim
      (λ (lt : p < q). ap (λ b. or_else (unless b why p) (first_failing why good (suc p) n)) (before p (omega arith) lt) ∙ failing_at (suc p) n q (omega arith) (omega arith) (λ k l h. before k (omega arith) h) bad)
      (λ (ge : q ≤ p). let e : p ≡ q = omega arith in ap (λ b. or_else (unless b why p) (first_failing why good (suc p) n)) (ap good e ∙ bad) ∙ ap (λ x. Some (refusal why x)) e)
      (cases_lt p q)

  pub failing_none : (p n : ℕ) → ((k : ℕ) → p ≤ k → k < p + n → good k ≡ true) → first_failing why good p n ≡ None
  failing_none p zero all = refl
  failing_none p (suc n) all =
      ap (λ b. or_else (unless b why p) (first_failing why good (suc p) n)) (all p (omega arith) (omega arith)) ∙ failing_none (suc p) n (λ k l h. all k (omega arith) (omega arith))

  pub none_failing : (p n : ℕ) → first_failing why good p n ≡ None → (k : ℕ) → p ≤ k → k < p + n → good k ≡ true
  none_failing p zero e k lo hi = absurd (omega arith)
  none_failing p (suc n) e k lo hi =
      let both = passed_first (good p) why p (first_failing why good (suc p) n) e in
      ⊎_elim
      (λ (lt : p < k). none_failing (suc p) n both.1 k (omega arith) (omega arith))
      (λ (ge : k ≤ p). let q : k ≡ p = omega arith in ap good q ∙ both.0)
      (cases_lt p k)
