-- A converted program is paired as its source is: secret ifs leave no bracket, the others keep theirs.
use Rattle.std.proofs.Common.{◌≡◌, ℕ, suc, ◌+◌, ◌≤◌, Bool, true, false, cond, ltb, List, [], ◌∷◌, ◌++◌, length, refl, ◌∙◌, arith}
use Rattle.std.proofs.lemmas.Bool.{and_parts, and_from}
use Rattle.instructions.specs.declared.Op.{Op}
use Rattle.instructions.specs.declared.Instruction.{Instruction}
use Rattle.instructions.specs.declared.Instruction.TheVariants.{Do, If, Else, End, Repeat, Again}
use Rattle.program.specs.declared.opening.Opening.{Opening}
use Rattle.program.specs.declared.opening.Opening.TheVariants.{Then, Otherwise, Loop}
use Rattle.program.specs.declared.opening.Marked.{Marked}
use Rattle.brackets.specs.Labelled.{mark}
use Rattle.masks.specs.Counts.{secrets_of}
use Rattle.groups.specs.Groups.{straight, mask_at, op_group, if_group, else_group}
use Rattle.conversion.specs.Conversion.{secret_if, convert}
use Rattle.converter.proofs.Shapes.{Shape, Fit, shape_of}

abbrev pub shapes : List (Marked Bool) → List Shape
shapes [] = []
shapes (k ∷ ks) = shape_of k.opening ∷ shapes ks

abbrev publics : List (Marked Bool) → List Shape
publics [] = []
publics (k ∷ ks) = cond k.label (publics ks) (shape_of k.opening ∷ publics ks)

-- no repeat is marked secret
abbrev Right : Opening → Bool → Type 0
Right (Then q a) c = Unit {0}
Right (Otherwise q a e) c = Unit {0}
Right (Loop q) c = c ≡ false

abbrev Rights : List (Marked Bool) → Type 0
Rights [] = Unit {0}
Rights (k ∷ ks) = Right k.opening k.label × Rights ks

fewer_one : (c : Bool) (s : Shape) (xs : List Shape) (n : ℕ) → length xs ≤ n → length (cond c xs (s ∷ xs)) ≤ suc n
fewer_one true s xs n h = omega arith
fewer_one false s xs n h = omega arith

fewer : (ks : List (Marked Bool)) → length (publics ks) ≤ length (shapes ks)
fewer [] = omega arith
fewer (k ∷ ks) = fewer_one k.label (shape_of k.opening) (publics ks) (length (shapes ks)) (fewer ks)

skip : (os : List Op) (ss : List Shape) (is : List Instruction) → Fit ss (straight os ++ is) ≡ Fit ss is
skip [] ss is = refl
skip (o ∷ os) [] is = skip os [] is
skip (o ∷ os) (s ∷ ss) is = skip os (s ∷ ss) is

less : (a b : ℕ) → a ≤ b → ltb b 8 ≡ true → ltb a 8 ≡ true
less a b h k = grind (arith)

module _ (long : ℕ → ℕ) (S : ℕ → ℕ → Bool) where
  abbrev Kept : List Instruction → Type 0
  Kept is = (ks : List (Marked Bool)) (p : ℕ) → Rights ks → Fit (shapes ks) is ≡ true → Fit (publics ks) (convert long S ks p is) ≡ true

  keep_if : (is : List Instruction) → Kept is → (ks : List (Marked Bool)) (p a : ℕ) (c : Bool) → Rights ks → Fit (shapes ks) (If a ∷ is) ≡ true
      → Fit (publics ks) (cond c (secret_if (secrets_of ks) a) (If a ∷ []) ++ convert long S (mark (Then p a) c ∷ ks) (suc p) is) ≡ true
  keep_if is ih ks p a true r h =
      let b = and_parts (ltb (length (shapes ks)) 8) _ h in
      skip (if_group (mask_at (secrets_of ks)) (16 + secrets_of ks) a) (publics ks) _ ∙ ih (mark (Then p a) true ∷ ks) (suc p) (tt, r) b.1
  keep_if is ih ks p a false r h =
      let b = and_parts (ltb (length (shapes ks)) 8) _ h in
      and_from _ _ (less (length (publics ks)) (length (shapes ks)) (fewer ks) b.0) (ih (mark (Then p a) false ∷ ks) (suc p) (tt, r) b.1)

  keep_else : (is : List Instruction) → Kept is → (ks : List (Marked Bool)) (p : ℕ) (w : Opening) (c : Bool) → Rights ks → Fit (shape_of w ∷ shapes ks) (Else ∷ is) ≡ true
      → Fit (publics (mark w c ∷ ks)) (convert long S (mark w c ∷ ks) p (Else ∷ is)) ≡ true
  keep_else is ih ks p (Then q a) true r h = skip (else_group (mask_at (secrets_of ks)) (16 + secrets_of ks)) (publics ks) _ ∙ ih (mark (Otherwise q a p) true ∷ ks) (suc p) (tt, r) h
  keep_else is ih ks p (Then q a) false r h = ih (mark (Otherwise q a p) false ∷ ks) (suc p) (tt, r) h
  keep_else is ih ks p (Otherwise q a e) c r h = let z : ◌≡◌ {A = ℕ} 0 1 = cc in absurd (omega arith)
  keep_else is ih ks p (Loop q) c r h = let z : ◌≡◌ {A = ℕ} 0 1 = cc in absurd (omega arith)

  keep_end : (is : List Instruction) → Kept is → (ks : List (Marked Bool)) (p : ℕ) (w : Opening) (c : Bool) → Rights ks → Fit (shape_of w ∷ shapes ks) (End ∷ is) ≡ true
      → Fit (publics (mark w c ∷ ks)) (convert long S (mark w c ∷ ks) p (End ∷ is)) ≡ true
  keep_end is ih ks p (Then q a) true r h = ih ks (suc p) r h
  keep_end is ih ks p (Then q a) false r h = ih ks (suc p) r h
  keep_end is ih ks p (Otherwise q a e) true r h = ih ks (suc p) r h
  keep_end is ih ks p (Otherwise q a e) false r h = ih ks (suc p) r h
  keep_end is ih ks p (Loop q) c r h = let z : ◌≡◌ {A = ℕ} 0 1 = cc in absurd (omega arith)

  keep_again : (is : List Instruction) → Kept is → (ks : List (Marked Bool)) (p : ℕ) (w : Opening) (c : Bool) → Right w c → Rights ks → Fit (shape_of w ∷ shapes ks) (Again ∷ is) ≡ true
      → Fit (publics (mark w c ∷ ks)) (convert long S (mark w c ∷ ks) p (Again ∷ is)) ≡ true
  keep_again is ih ks p (Then q a) c g r h = let z : ◌≡◌ {A = ℕ} 0 1 = cc in absurd (omega arith)
  keep_again is ih ks p (Otherwise q a e) c g r h = let z : ◌≡◌ {A = ℕ} 0 1 = cc in absurd (omega arith)
  keep_again is ih ks p (Loop q) true g r h = let z : ◌≡◌ {A = ℕ} 0 1 = cc in absurd (omega arith)
  keep_again is ih ks p (Loop q) false g r h = ih ks (suc p) r h

  keeps : (is : List Instruction) → Kept is
  keeps [] [] p r h = refl
  keeps [] (k ∷ ks) p r h = let z : ◌≡◌ {A = ℕ} 0 1 = cc in absurd (omega arith)
  keeps (Do o ∷ is) ks p r h = skip (op_group long (mask_at (secrets_of ks)) p o) (publics ks) _ ∙ keeps is ks (suc p) r h
  keeps (If a ∷ is) ks p r h = keep_if is (keeps is) ks p a (S p a) r h
  keeps (Else ∷ is) [] p r h = h
  keeps (Else ∷ is) (k ∷ ks) p r h = keep_else is (keeps is) ks p k.opening k.label r.1 h
  keeps (End ∷ is) [] p r h = h
  keeps (End ∷ is) (k ∷ ks) p r h = keep_end is (keeps is) ks p k.opening k.label r.1 h
  keeps (Repeat a n ∷ is) ks p r h =
      let b = and_parts (ltb (length (shapes ks)) 8) _ h in
      and_from _ _ (less (length (publics ks)) (length (shapes ks)) (fewer ks) b.0) (keeps is (mark (Loop p) false ∷ ks) (suc p) (refl, r) b.1)
  keeps (Again ∷ is) [] p r h = h
  keeps (Again ∷ is) (k ∷ ks) p r h = keep_again is (keeps is) ks p k.opening k.label r.0 r.1 h

pub paired : (long : ℕ → ℕ) (S : ℕ → ℕ → Bool) (code : List Instruction) → Fit [] code ≡ true → Fit [] (convert long S [] 0 code) ≡ true
paired long S code h = keeps long S code [] 0 tt h
