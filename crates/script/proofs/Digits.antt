-- A number that is read, by the digits of its text.
use Rattle.std.proofs.Common.{◌≡◌, ℕ, ◌^◌, Bool, true, false, ◌&&◌, cond, ltb, List, [], ◌∷◌, length, Some, None, Ok, Err, Result, refl, sym, ap, ◌∙◌}
use Rattle.std.proofs.lemmas.Bool.{and_from, and_parts, lt-ltb, ltb-true}
use Rattle.std.specs.Char.{digit_value}
use Rattle.std.specs.Result.{OkIff, result_ok}
use Rattle.std.specs.Str.Parse.{AllDigits, digits_value, without_leading_plus, ParsesUnsigned}
use Rattle.script.specs.Numbers.{are_digits, value_of}

module _ (base : ℕ) where
  tested : (ds : List ℕ) → AllDigits base ds → are_digits base ds ≡ true
  tested [] d = refl
  tested (c ∷ cs) d = and_from _ _ (lt-ltb (digit_value c) base d.0) (tested cs d.1)

  digits_from : (ds : List ℕ) → are_digits base ds ≡ true → AllDigits base ds
  digits_from [] e = tt
  digits_from (c ∷ cs) e = let p = and_parts _ _ e in (ltb-true (digit_value c) base p.0, digits_from cs p.1)

told : {E P : Type 0} (t : Bool) (v : ℕ) (r : Result ℕ E) → (P → t ≡ true) → (t ≡ true → P) → OkIff r P v → result_ok r ≡ cond t (Some v) None
told t v (Ok x) to from (p, e) = ap Some e ∙ ap (λ b. cond b (Some v) None) (sym (to p))
told true v (Err e) to from not_so = absurd (not_so (from refl))
told false v (Err e) to from not_so = refl

pub read_digits : {E : Type 0} (bits base : ℕ) (text : List ℕ) (r : Result ℕ E) → ParsesUnsigned bits base text r → result_ok r ≡ value_of bits base (without_leading_plus text)
read_digits bits base text r h =
    let ds = without_leading_plus text in
    let v = digits_value base ds in
    let some = ltb 0 (length ds) in
    let all = are_digits base ds in
    let few = ltb v (2 ^ bits) in
    told (some && all && few) v r
    (λ p. and_from (some && all) few (and_from some all (lt-ltb 0 (length ds) p.0.0) (tested base ds p.0.1)) (lt-ltb v (2 ^ bits) p.1))
    (λ e.
    let p = and_parts (some && all) few e in
    let q = and_parts some all p.0 in
    ((ltb-true 0 (length ds) q.0, digits_from base ds q.1), ltb-true v (2 ^ bits) p.1))
    h
