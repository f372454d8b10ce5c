-- One case more.
use Rattle.std.proofs.Common.{◌≡◌, ℕ, ◌+◌, ◌-◌, ◌^◌, min, sym, Bool, true, false, cond, ltb, ◌&&◌, List, [], ◌∷◌, ◌++◌, length, vec_len, vec_items, Vec, Ok, Err, Result, IfOk, is_ok, String, Global, ◌∙◌, ap, arith, length-append}
use Rattle.std.proofs.lemmas.Bool.{ltb-true, ltb-false}
use Rattle.tally.specs.declared.report.Report.{Report}
use Rattle.counted.specs.Counted.{Counted}

min_more : (x n m k : ℕ) → x ≡ min n m → min (x + k) m ≡ min (n + k) m
min_more x n m k e = omega (arith, e)

min_again : (x n m : ℕ) → x ≡ min n m → min x m ≡ min n m
min_again x n m e = omega (arith, e)

-- where it agrees, and all notes stay
pub one_agrees : (n : ℕ) (r s : Report) → Counted n r → s.tally.agree ≡ min (r.tally.agree + 1) (2 ^ 64 - 1) → s.tally.all ≡ min (r.tally.all + 1) (2 ^ 64 - 1) → vec_items s.notes ≡ vec_items r.notes → Counted (n + 1) s
one_agrees n r s c agree all notes = record {
  agreeing = c.agreeing + 1;
  differing = c.differing;
  both = omega (arith, c.both);
  agree = agree ∙ min_more r.tally.agree c.agreeing (2 ^ 64 - 1) 1 c.agree;
  all = all ∙ min_more r.tally.all n (2 ^ 64 - 1) 1 c.all;
  notes = ap length notes ∙ c.notes;
}

-- where it differs, and there is a note on it if it is among the first three
pub one_differs : (n : ℕ) (r s : Report) → Counted n r → s.tally.agree ≡ min r.tally.agree (2 ^ 64 - 1) → s.tally.all ≡ min (r.tally.all + 1) (2 ^ 64 - 1) → length (vec_items s.notes) ≡ min (length (vec_items r.notes) + 1) 3 → Counted (n + 1) s
one_differs n r s c agree all notes = record {
  agreeing = c.agreeing;
  differing = c.differing + 1;
  both = omega (arith, c.both);
  agree = agree ∙ min_again r.tally.agree c.agreeing (2 ^ 64 - 1) c.agree;
  all = all ∙ min_more r.tally.all n (2 ^ 64 - 1) 1 c.all;
  notes = notes ∙ min_more (length (vec_items r.notes)) c.differing 3 1 c.notes;
}

-- a note more, where there is room for it
noted : {A : Type 0} (xs ys : List A) (x : A) (d : ℕ) (room : Bool) → room ≡ ltb (length xs) 3 → length xs ≡ min d 3 → ys ≡ cond room (xs ++ x ∷ []) xs → length ys ≡ min (length xs + 1) 3
noted xs ys x d true r e is = omega (arith, ltb-true (length xs) 3 (sym r), ap length is, length-append xs (x ∷ []))
noted xs ys x d false r e is = omega (arith, ltb-false (length xs) 3 (sym r), e, ap length is)

long : {A Z : Type 0} (v : Vec A Z) → vec_len v ≡ length (vec_items v)
long v = v.ok.0

pub differs_if_ok : {U E : Type 0} (n : ℕ) (r s : Report) (note : String Global) (done : Result U E) → Counted n r → s.tally.agree ≡ min r.tally.agree (2 ^ 64 - 1) → s.tally.all ≡ min (r.tally.all + 1) (2 ^ 64 - 1)
    → vec_items s.notes ≡ cond (is_ok done && ltb (vec_len r.notes) 3) (vec_items r.notes ++ note ∷ []) (vec_items r.notes) → IfOk done (λ u. Counted (n + 1) s)
differs_if_ok n r s note (Ok u) c agree all notes = one_differs n r s c agree all (noted (vec_items r.notes) (vec_items s.notes) note c.differing (ltb (vec_len r.notes) 3) (ap (λ k. ltb k 3) (long r.notes)) c.notes notes)
differs_if_ok n r s note (Err e) c agree all notes = tt
