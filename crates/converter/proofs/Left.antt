-- What is left of brackets.
use Rattle.std.proofs.Common.{◌≡◌, ℕ, suc, ◌+◌, Bool, true, false, cond, List, [], ◌∷◌, ◌++◌, refl, ap, ◌∙◌}
use Rattle.instructions.specs.declared.Op.{Op}
use Rattle.instructions.specs.declared.Instruction.{Instruction}
use Rattle.instructions.specs.declared.Instruction.TheVariants.{Do, If, Else, End, Repeat, Again}
use Rattle.program.specs.declared.opening.Marked.{Marked}
use Rattle.labels.specs.Kinds.{secrecy}
use Rattle.labels.specs.Passes.{opens}
use Rattle.masks.specs.Counts.{secrets_of}
use Rattle.groups.specs.Groups.{straight, mask_at, op_group, if_group, else_group}
use Rattle.conversion.specs.Conversion.{secret_if, secret_else, becomes, convert}
use Rattle.converter.specs.Straight.{brackets, public_one, public_brackets}

brackets_both : (xs ys : List Instruction) → brackets (xs ++ ys) ≡ brackets xs ++ brackets ys
brackets_both [] ys = refl
brackets_both (Do op ∷ xs) ys = brackets_both xs ys
brackets_both (If a ∷ xs) ys = ap (λ l. If a ∷ l) (brackets_both xs ys)
brackets_both (Else ∷ xs) ys = ap (λ l. Else ∷ l) (brackets_both xs ys)
brackets_both (End ∷ xs) ys = ap (λ l. End ∷ l) (brackets_both xs ys)
brackets_both (Repeat a k ∷ xs) ys = ap (λ l. Repeat a k ∷ l) (brackets_both xs ys)
brackets_both (Again ∷ xs) ys = ap (λ l. Again ∷ l) (brackets_both xs ys)

none_straight : (os : List Op) → brackets (straight os) ≡ []
none_straight [] = refl
none_straight (o ∷ os) = none_straight os

if_left : (c : Bool) (s a : ℕ) → brackets (cond c (secret_if s a) (If a ∷ [])) ≡ cond c [] (If a ∷ [])
if_left true s a = none_straight (if_group (mask_at s) (16 + s) a)
if_left false s a = refl

else_left : (c : Bool) (s : ℕ) → brackets (cond c (secret_else s) (Else ∷ [])) ≡ cond c [] (Else ∷ [])
else_left true s = none_straight (else_group (mask_at s) (16 + s))
else_left false s = refl

end_left : (c : Bool) → brackets (cond c [] (End ∷ [])) ≡ cond c [] (End ∷ [])
end_left true = refl
end_left false = refl

module _ (long : ℕ → ℕ) where
  one_left : (A : ℕ → Bool) (ks : List (Marked Bool)) (p : ℕ) (i : Instruction) → brackets (becomes long A ks p i) ≡ public_one A ks i
  one_left A ks p (Do op) = none_straight (op_group long (mask_at (secrets_of ks)) p op)
  one_left A ks p (If a) = if_left (A a) (secrets_of ks) a
  one_left A [] p Else = refl
  one_left A (k ∷ ks) p Else = else_left k.label (secrets_of ks)
  one_left A [] p End = refl
  one_left A (k ∷ ks) p End = end_left k.label
  one_left A ks p (Repeat a k) = refl
  one_left A ks p Again = refl

  pub all_left : (S : ℕ → ℕ → Bool) (is : List Instruction) (ks : List (Marked Bool)) (p : ℕ) → brackets (convert long S ks p is) ≡ public_brackets S ks p is
  all_left S [] ks p = refl
  all_left S (i ∷ is) ks p =
      let e = one_left (S p) ks p i in
      let f = all_left S is (opens secrecy (S p) ks p i) (suc p) in
      brackets_both (becomes long (S p) ks p i) (convert long S (opens secrecy (S p) ks p i) (suc p) is) ∙ (λ t. e t ++ f t)
