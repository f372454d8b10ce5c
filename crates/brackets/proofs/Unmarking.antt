-- Openings, without their labels.
use Rattle.std.proofs.Common.{◌≡◌, ℕ, suc, List, [], ◌∷◌, length, refl, ap}
use Rattle.instructions.specs.declared.Instruction.{Instruction}
use Rattle.instructions.specs.declared.Instruction.TheVariants.{Do, If, Else, End, Repeat, Again}
use Rattle.program.specs.declared.opening.Opening.{Opening}
use Rattle.program.specs.declared.opening.Opening.TheVariants.{Then, Otherwise, Loop}
use Rattle.program.specs.declared.opening.Marked.{Marked}
use Rattle.program.specs.Openings.{past}
use Rattle.brackets.specs.Labelled.{marked_else, marked_end, marked_again, unmarked, marked_past}

module _ {L : Type 0} where
  pub as_long : (ks : List (Marked L)) → length (unmarked ks) ≡ length ks
  as_long [] = refl
  as_long (k ∷ ks) = ap suc (as_long ks)

  at_else : (o : Opening) (l : L) (p : ℕ) (ks : List (Marked L)) → unmarked (marked_else o l p ks) ≡ past p Else (o ∷ unmarked ks)
  at_else (Then q a) l p ks = refl
  at_else (Otherwise q a m) l p ks = refl
  at_else (Loop q) l p ks = refl

  at_end : (o : Opening) (l : L) (p : ℕ) (ks : List (Marked L)) → unmarked (marked_end o l ks) ≡ past p End (o ∷ unmarked ks)
  at_end (Then q a) l p ks = refl
  at_end (Otherwise q a m) l p ks = refl
  at_end (Loop q) l p ks = refl

  at_again : (o : Opening) (l : L) (p : ℕ) (ks : List (Marked L)) → unmarked (marked_again o l ks) ≡ past p Again (o ∷ unmarked ks)
  at_again (Then q a) l p ks = refl
  at_again (Otherwise q a m) l p ks = refl
  at_again (Loop q) l p ks = refl

  -- what is open after an instruction, without labels
  pub unmarked_past : (l : L) (ks : List (Marked L)) (p : ℕ) (i : Instruction) → unmarked (marked_past l p i ks) ≡ past p i (unmarked ks)
  unmarked_past l ks p (Do op) = refl
  unmarked_past l ks p (If a) = refl
  unmarked_past l [] p Else = refl
  unmarked_past l (k ∷ ks) p Else = at_else k.opening k.label p ks
  unmarked_past l [] p End = refl
  unmarked_past l (k ∷ ks) p End = at_end k.opening k.label p ks
  unmarked_past l ks p (Repeat a n) = refl
  unmarked_past l [] p Again = refl
  unmarked_past l (k ∷ ks) p Again = at_again k.opening k.label p ks
