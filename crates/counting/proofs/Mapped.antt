-- An array of what a closure gives of each element.
use Rattle.std.proofs.Common.{◌≡◌, ℕ, zero, suc, ◌+◌, ◌≤◌, List, [], ◌∷◌, ◌++◌, map, length, get_or, take, sym, ap, ◌∙◌, subst, refl, arith}
use Rattle.std.proofs.lemmas.List.{take_more, map_more, take_all}
use Rattle.std.specs.Fn.{Called}
use Rattle.std.specs.Array.{MapsFrom, IsMapOf}
use denote.Param.Members.{Mut}

module _ {F A B : Type 0} (g : Mut F (A × Unit {0}) B) (h : A → B) (f : F) (only : (x : A) (y : B) (q : F) → Called g f (x, tt) y q → (q ≡ f) × (y ≡ h x)) (xs : List A) (ys : List B) where
  maps_on : (n i : ℕ) → i + n ≤ length xs → i + n ≤ length ys → take i ys ≡ map h (take i xs) → MapsFrom g f xs ys i n → take (i + n) ys ≡ map h (take (i + n) xs)
  maps_on zero i lx ly e m = let z : i + 0 ≡ i = omega arith in ap (λ k. take k ys) z ∙ (e ∙ sym (ap (λ k. map h (take k xs)) z))
  maps_on (suc n) i lx ly e (q, x, y, ex, ey, called, m) =
      let o = only x y q called in
      let s : i + suc n ≡ i + 1 + n = omega arith in
      let a : get_or ys i y ≡ h (get_or xs i x) = ey.0 ∙ (o.1 ∙ ap h (sym ex.0)) in
      let one : take (i + 1) ys ≡ map h (take (i + 1) xs) =
      take_more ys i y (omega arith) ∙ (ap (λ l. l ++ get_or ys i y ∷ []) e ∙ (ap (λ v. map h (take i xs) ++ v ∷ []) a ∙ sym (map_more h xs i x (omega arith)))) in
      ap (λ k. take k ys) s ∙ (maps_on n (i + 1) (omega arith) (omega arith) one (subst (λ r. MapsFrom g r xs ys (i + 1) n) o.0 m) ∙ sym (ap (λ k. map h (take k xs)) s))

  pub mapped : (n : ℕ) → length xs ≡ n → IsMapOf g f xs ys n → ys ≡ map h xs
  mapped n l m =
      let lx : n ≤ length xs = omega arith in
      let ly : n ≤ length ys = omega (arith, m.long) in
      let z : 0 + n ≡ n = omega arith in
      let e : take (0 + n) ys ≡ map h (take (0 + n) xs) = maps_on n 0 (omega arith) (omega arith) refl m.each in
      sym (take_all (0 + n) ys (omega (arith, m.long))) ∙ (e ∙ ap (map h) (take_all (0 + n) xs (omega arith)))
