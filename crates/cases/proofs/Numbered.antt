-- A `for` over items with their indices, which has yielded xs.
use Rattle.std.proofs.Common.{◌≡◌, ℕ, ◌<◌, List, length, get_or, Option, Some, None, ap, subst, ◌∙◌}
use Rattle.std.proofs.lemmas.Iterator.{YieldsList}
use Rattle.std.proofs.lemmas.Iterator.Consumers.{YieldsList-turn, YieldsList-end, YieldsList-from_enumerate}
use Rattle.std.proofs.lemmas.List.FromFn.{length-enumerate_from, get_or-enumerate_from}
use Rattle.std.specs.Iterator.{Yields}
use Rattle.std.specs.Iterator.Adapters.{enumerate_source, enumerate_count, enumerate_steps}
use Rattle.std.specs.List.{enumerate_from}
use Rattle.std.specs.declared.iter.Enumerate.{Enumerate}

place_of : {B : Type 0} (all : List B) (n i : ℕ) (x : B) → (n < length (enumerate_from 0 all)) × ((i, x) ≡ get_or (enumerate_from 0 all) n (i, x)) → (n < length all) × (x ≡ get_or all n x)
place_of all n i x h =
    let lt = subst (λ k. n < k) (length-enumerate_from 0 all) h.0 in
    (lt, ap (λ p. p.1) (h.1 ∙ get_or-enumerate_from 0 all n (i, x) lt))

module _ {S A B : Type 0} {steps : S → Option A → S → Type 0} {v : A → B} {s : Enumerate S} {all : List B} (e : YieldsList steps v (enumerate_source s) all) (c : enumerate_count s ≡ 0) (xs : List (ℕ × A)) (t : Enumerate S) (y : Yields (enumerate_steps steps) s xs t) where
  pub numbered_turn : (r : Option (ℕ × A)) (u : Enumerate S) (i : ℕ) (x : A) → r ≡ Some (i, x) → enumerate_steps steps t r u → (length xs < length all) × (v x ≡ get_or all (length xs) (v x))
  numbered_turn r u i x is p = place_of all (length xs) i (v x) (YieldsList-turn (YieldsList-from_enumerate e c) xs t y r u (i, x) is p)

  pub numbered_end : (r : Option (ℕ × A)) (u : Enumerate S) → r ≡ None → enumerate_steps steps t r u → length xs ≡ length all
  numbered_end r u is p = (YieldsList-end (YieldsList-from_enumerate e c) xs t y r u is p).1 ∙ length-enumerate_from 0 all
