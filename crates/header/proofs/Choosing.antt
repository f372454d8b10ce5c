-- A value that is there where a test holds; an entry more that a function of the index gives.
use Rattle.std.proofs.Common.{◌≡◌, ℕ, ◌+◌, ◌<◌, ◌≤◌, Bool, true, false, cond, ◌≢◌, List, length, get_or, set, Some, None, sym, refl, ap, ◌∙◌, ⊎_elim, arith, get_or-set_other, get_or-set_same}
use Rattle.std.specs.Bool.{then_some}
use Rattle.std.proofs.lemmas.Bool.{cases_lt}

pub cond_none : {X : Type 0} (b : Bool) (x : X) → None ≡ cond b (Some x) None → b ≡ false
cond_none true x e = let z : ◌≡◌ {A = ℕ} 0 1 = cc in absurd (omega arith)
cond_none false x e = refl

pub cond_some : {X : Type 0} (b : Bool) (x y : X) → Some y ≡ cond b (Some x) None → (b ≡ true) × (y ≡ x)
cond_some true x y e = (refl, cc)
cond_some false x y e = let z : ◌≡◌ {A = ℕ} 0 1 = cc in absurd (omega arith)

pub then_chosen : {X : Type 0} (b : Bool) (x : X) → then_some b x ≡ cond b (Some x) None
then_chosen true x = refl
then_chosen false x = refl

pub written_more : {X : Type 0} (f : ℕ → X) (xs : List X) (i : ℕ) (x : X) → i < length xs → x ≡ f i → ((k : ℕ) (d : X) → k < i → get_or xs k d ≡ f k) → (k : ℕ) (d : X) → k < i + 1 → get_or (set xs i x) k d ≡ f k
written_more f xs i x room e before k d h =
    ⊎_elim
    (λ (lt : k < i). let ne : k ≢ i = omega arith in get_or-set_other xs i k x d ne ∙ before k d lt)
    (λ (ge : i ≤ k). let q : k ≡ i = omega arith in ap (λ j. get_or (set xs i x) j d) q ∙ get_or-set_same xs i x d room ∙ e ∙ ap f (sym q))
    (cases_lt k i)
