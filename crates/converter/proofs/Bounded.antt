-- A converted program keeps the bounds of its kind.
use Rattle.std.proofs.Common.{◌≡◌, ℕ, zero, suc, ◌+◌, ◌<◌, ◌≤◌, Bool, true, false, cond, ◌&&◌, ltb, leb, List, [], ◌∷◌, ◌++◌, length, get_or, refl, ap, arith}
use Rattle.std.proofs.lemmas.Bool.{and_parts, and_from, ltb-true, false≢true}
use Rattle.instructions.specs.declared.Op.{Op}
use Rattle.instructions.specs.declared.Instruction.{Instruction}
use Rattle.instructions.specs.declared.Instruction.TheVariants.{Do, If, Else, End, Repeat, Again}
use Rattle.program.specs.declared.opening.Opening.{Opening}
use Rattle.program.specs.declared.opening.Opening.TheVariants.{Then, Otherwise, Loop}
use Rattle.program.specs.declared.opening.Marked.{Marked}
use Rattle.program.specs.Bounds.{bound_op, bound}
use Rattle.brackets.specs.Labelled.{mark}
use Rattle.labels.specs.Kinds.{secrecy}
use Rattle.labels.specs.Passes.{opens}
use Rattle.masks.specs.Counts.{secrets_of}
use Rattle.masks.proofs.Counting.{secrets_le}
use Rattle.groups.specs.Groups.{straight, mask_at, op_group, if_group, else_group}
use Rattle.conversion.specs.Conversion.{secret_if, secret_else, becomes, convert}
use Rattle.converter.proofs.Shapes.{Fit}
use Rattle.converter.proofs.Paired.{shapes}
use Rattle.converter.proofs.Fitting.{wide, mask_fits, AllOps, op_group_fits, if_group_fits, else_group_fits}

length-shapes : (ks : List (Marked Bool)) → length (shapes ks) ≡ length ks
length-shapes [] = refl
length-shapes (k ∷ ks) = ap suc (length-shapes ks)

abbrev pub All : ℕ → ℕ → List Instruction → Bool
All registers used [] = true
All registers used (i ∷ is) = bound registers used i && All registers used is

pub all_at : (registers used : ℕ) (is : List Instruction) (p : ℕ) → All registers used is ≡ true → bound registers used (get_or is p Again) ≡ true
all_at registers used [] p h = refl
all_at registers used (i ∷ is) zero h = (and_parts (bound registers used i) (All registers used is) h).0
all_at registers used (i ∷ is) (suc p) h = all_at registers used is p (and_parts (bound registers used i) (All registers used is) h).1

pub all_from : (registers used : ℕ) (is : List Instruction) → ((p : ℕ) → p < length is → bound registers used (get_or is p Again) ≡ true) → All registers used is ≡ true
all_from registers used [] h = refl
all_from registers used (i ∷ is) h = and_from _ _ (h 0 (omega arith)) (all_from registers used is (λ p l. h (suc p) (omega arith)))

module _ (used : ℕ) where
  all_both : (xs ys : List Instruction) → All 32 used xs ≡ true → All 32 used ys ≡ true → All 32 used (xs ++ ys) ≡ true
  all_both [] ys h k = k
  all_both (x ∷ xs) ys h k = let b = and_parts (bound 32 used x) (All 32 used xs) h in and_from _ _ b.0 (all_both xs ys b.1 k)

  all_straight : (os : List Op) → AllOps used os ≡ true → All 32 used (straight os) ≡ true
  all_straight [] h = refl
  all_straight (o ∷ os) h = let b = and_parts (bound_op 32 used o) (AllOps used os) h in and_from _ _ b.0 (all_straight os b.1)

  if_fits : (c : Bool) (s a : ℕ) → s ≤ 8 → ltb a 16 ≡ true → All 32 used (cond c (secret_if s a) (If a ∷ [])) ≡ true
  if_fits true s a h e = all_straight (if_group (mask_at s) (16 + s) a) (if_group_fits used (mask_at s) (16 + s) a (mask_fits s h) (omega arith) e)
  if_fits false s a h e = and_from _ _ (wide a e) refl

  else_fits : (c : Bool) (s : ℕ) → s ≤ 8 → All 32 used (cond c (secret_else s) (Else ∷ [])) ≡ true
  else_fits true s h = all_straight (else_group (mask_at s) (16 + s)) (else_group_fits used (mask_at s) (16 + s) (mask_fits s h) (omega arith))
  else_fits false s h = refl

  end_fits : (c : Bool) → All 32 used (cond c [] (End ∷ [])) ≡ true
  end_fits true = refl
  end_fits false = refl

  module _ (long : ℕ → ℕ) (lengths : (b : ℕ) → ltb b used ≡ true → long b ≤ 1024) where
    one_fits : (A : ℕ → Bool) (ks : List (Marked Bool)) (p : ℕ) (i : Instruction) → length ks ≤ 8 → p < 200 → bound 16 used i ≡ true → All 32 used (becomes long A ks p i) ≡ true
    one_fits A ks p (Do op) l q e =
        let s : secrets_of ks ≤ 8 = omega (arith, secrets_le ks) in
        all_straight (op_group long (mask_at (secrets_of ks)) p op) (op_group_fits used long lengths (mask_at (secrets_of ks)) p op (mask_fits (secrets_of ks) s) q e)
    one_fits A ks p (If a) l q e = if_fits (A a) (secrets_of ks) a (omega (arith, secrets_le ks)) e
    one_fits A [] p Else l q e = refl
    one_fits A (k ∷ ks) p Else l q e = else_fits k.label (secrets_of ks) (omega (arith, secrets_le ks))
    one_fits A [] p End l q e = refl
    one_fits A (k ∷ ks) p End l q e = end_fits k.label
    one_fits A ks p (Repeat a k) l q e = let b = and_parts (ltb a 16) (leb 1 k && leb k 1024) e in and_from _ _ (and_from _ _ (wide a b.0) b.1) refl
    one_fits A ks p Again l q e = refl

    module _ (S : ℕ → ℕ → Bool) where
      -- what is open stays within eight
      abbrev Step : List (Marked Bool) → List Instruction → Type 0
      Step js is = (length js ≤ 8) × (Fit (shapes js) is ≡ true)

      at_else : (w : Opening) (c : Bool) (ks : List (Marked Bool)) (p : ℕ) (A : ℕ → Bool) (is : List Instruction) → length (mark w c ∷ ks) ≤ 8 → Fit (shapes (mark w c ∷ ks)) (Else ∷ is) ≡ true → Step (opens secrecy A (mark w c ∷ ks) p Else) is
      at_else (Then q a) c ks p A is l h = (l, h)
      at_else (Otherwise q a m) c ks p A is l h = absurd (false≢true h)
      at_else (Loop q) c ks p A is l h = absurd (false≢true h)

      at_end : (w : Opening) (c : Bool) (ks : List (Marked Bool)) (p : ℕ) (A : ℕ → Bool) (is : List Instruction) → length (mark w c ∷ ks) ≤ 8 → Fit (shapes (mark w c ∷ ks)) (End ∷ is) ≡ true → Step (opens secrecy A (mark w c ∷ ks) p End) is
      at_end (Then q a) c ks p A is l h = (omega arith, h)
      at_end (Otherwise q a m) c ks p A is l h = (omega arith, h)
      at_end (Loop q) c ks p A is l h = absurd (false≢true h)

      at_again : (w : Opening) (c : Bool) (ks : List (Marked Bool)) (p : ℕ) (A : ℕ → Bool) (is : List Instruction) → length (mark w c ∷ ks) ≤ 8 → Fit (shapes (mark w c ∷ ks)) (Again ∷ is) ≡ true → Step (opens secrecy A (mark w c ∷ ks) p Again) is
      at_again (Then q a) c ks p A is l h = absurd (false≢true h)
      at_again (Otherwise q a m) c ks p A is l h = absurd (false≢true h)
      at_again (Loop q) c ks p A is l h = (omega arith, h)

      step : (A : ℕ → Bool) (ks : List (Marked Bool)) (p : ℕ) (i : Instruction) (is : List Instruction) → length ks ≤ 8 → Fit (shapes ks) (i ∷ is) ≡ true → Step (opens secrecy A ks p i) is
      step A ks p (Do op) is l h = (l, h)
      step A ks p (If a) is l h =
          let b = and_parts (ltb (length (shapes ks)) 8) _ h in
          let n = ltb-true (length (shapes ks)) 8 b.0 in
          (omega (arith, length-shapes ks), b.1)
      step A [] p Else is l h = absurd (false≢true h)
      step A (k ∷ ks) p Else is l h = at_else k.opening k.label ks p A is l h
      step A [] p End is l h = absurd (false≢true h)
      step A (k ∷ ks) p End is l h = at_end k.opening k.label ks p A is l h
      step A ks p (Repeat a k) is l h =
          let b = and_parts (ltb (length (shapes ks)) 8) _ h in
          let n = ltb-true (length (shapes ks)) 8 b.0 in
          (omega (arith, length-shapes ks), b.1)
      step A [] p Again is l h = absurd (false≢true h)
      step A (k ∷ ks) p Again is l h = at_again k.opening k.label ks p A is l h

      pub bounded : (is : List Instruction) (ks : List (Marked Bool)) (p : ℕ) → length ks ≤ 8 → Fit (shapes ks) is ≡ true → p + length is ≤ 200 → All 16 used is ≡ true → All 32 used (convert long S ks p is) ≡ true
      bounded [] ks p l h q e = refl
      bounded (i ∷ is) ks p l h q e =
          let b = and_parts (bound 16 used i) (All 16 used is) e in
          let n = step (S p) ks p i is l h in
          all_both (becomes long (S p) ks p i) _ (one_fits (S p) ks p i l (omega arith) b.0) (bounded is (opens secrecy (S p) ks p i) (suc p) n.0 n.1 (omega arith) b.1)
