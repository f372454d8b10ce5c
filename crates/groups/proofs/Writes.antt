-- What writes add.
use Rattle.std.proofs.Common.{◌≡◌, ℕ, suc, ◌+◌, ◌<◌, List, [], ◌∷◌, ◌++◌, length, get_or, take, sym, refl, ap, ◌∙◌, length-append}
use Rattle.std.proofs.lemmas.List.{append_assoc, take_more}
use Rattle.instructions.specs.declared.Op.{Op}
use Rattle.instructions.specs.declared.Instruction.{Instruction}
use Rattle.instructions.specs.declared.Instruction.TheVariants.{Do}
use Rattle.groups.specs.Groups.{straight}

straight_both : (xs ys : List Op) → straight (xs ++ ys) ≡ straight xs ++ straight ys
straight_both [] ys = refl
straight_both (x ∷ xs) ys = ap (λ l. Do x ∷ l) (straight_both xs ys)

length-straight : (xs : List Op) → length (straight xs) ≡ length xs
length-straight [] = refl
length-straight (x ∷ xs) = ap suc (length-straight xs)

-- ops that are written add as many instructions
pub longer : (w₀ w : List Instruction) (xs : List Op) → w ≡ w₀ ++ straight xs → length w ≡ length w₀ + length xs
longer w₀ w xs e = ap length e ∙ simp (length-append, length-straight)

-- one op more
pub one_more : (w₀ w : List Instruction) (ops : List Op) (i : ℕ) (o : Op) → i < length ops → o ≡ get_or ops i o → w ≡ w₀ ++ straight (take i ops)
    → w ++ (Do o ∷ []) ≡ w₀ ++ straight (take (i + 1) ops)
one_more w₀ w ops i o h x e =
    ap (λ l. l ++ (Do o ∷ [])) e
    ∙ append_assoc w₀ (straight (take i ops)) (Do o ∷ [])
    ∙ ap (λ l. w₀ ++ l) (sym (ap straight (take_more ops i o h) ∙ straight_both (take i ops) (get_or ops i o ∷ []) ∙ ap (λ y. straight (take i ops) ++ (Do y ∷ [])) (sym x)))
