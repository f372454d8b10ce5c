-- Counting the secret ifs among openings.
use Rattle.std.proofs.Common.{◌≡◌, ℕ, suc, ◌+◌, ◌≤◌, Bool, true, false, ◌||◌, ltb, List, [], ◌∷◌, length, Some, None, Option, sym, refl, ap, ◌∙◌, arith}
use Rattle.std.proofs.lemmas.Bool.{lt-ltb}
use mir.Val.{bool_byte}
use Rattle.instructions.specs.declared.Instruction.{Instruction}
use Rattle.instructions.specs.declared.Instruction.TheVariants.{Do, If, Else, End, Repeat, Again}
use Rattle.program.specs.declared.opening.Opening.{Opening}
use Rattle.program.specs.declared.opening.Opening.TheVariants.{Then, Otherwise, Loop}
use Rattle.program.specs.declared.opening.Marked.{Marked}
use Rattle.program.specs.declared.refusal.Reason.{Reason}
use Rattle.program.specs.declared.refusal.Refusal.{Refusal}
use Rattle.program.specs.Refusals.{unless}
use Rattle.program.specs.Pairing.{wrong}
use Rattle.program.proofs.Refusals.{no_some}
use Rattle.brackets.specs.Labelled.{mark, marked_else, marked_end, marked_again, unmarked, closed_by_end, closed_by_again, closed}
use Rattle.brackets.proofs.Unmarking.{as_long}
use Rattle.labels.specs.Kinds.{secrecy}
use Rattle.labels.specs.Rules.{mask_of}
use Rattle.labels.specs.Passes.{labelled, opens}
use Rattle.masks.specs.Counts.{more, secrets_of}

more_le : (b : Bool) (n m : ℕ) → n ≤ m → more b n ≤ m + 1
more_le true n m h = omega arith
more_le false n m h = omega arith

-- there are no more secret ifs than openings
pub secrets_le : (ks : List (Marked Bool)) → secrets_of ks ≤ length ks
secrets_le [] = omega arith
secrets_le (k ∷ ks) = let h = more_le k.label (secrets_of ks) (length ks) (secrets_le ks) in omega arith

pub byte_le : (b : Bool) → bool_byte b ≤ 1
byte_le true = omega arith
byte_le false = omega arith

more_byte : (b : Bool) (n : ℕ) → more b n ≡ n + bool_byte b
more_byte true n = omega arith
more_byte false n = omega arith

more_or : (b : Bool) (n : ℕ) → ltb 0 (more b n) ≡ (b || ltb 0 n)
more_or true n = grind (arith)
more_or false n = refl

-- a place is masked where there are secret ifs
pub masks_mask : (ks : List (Marked Bool)) → ltb 0 (secrets_of ks) ≡ mask_of secrecy ks
masks_mask [] = refl
masks_mask (k ∷ ks) = more_or k.label (secrets_of ks) ∙ ap (λ b. k.label || b) (masks_mask ks)

-- an opening that is closed is a secret if
abbrev pub secret_one : Option (Marked Bool) → Bool
secret_one None = false
secret_one (Some k) = k.label

module _ (k : Marked Bool) (ks : List (Marked Bool)) where
  at_else : (o : Opening) (p : ℕ) → secrets_of (marked_else o k.label p ks) ≡ more k.label (secrets_of ks)
  at_else (Then q a) p = refl
  at_else (Otherwise q a m) p = refl
  at_else (Loop q) p = refl

  at_end : (o : Opening) → more (secret_one (closed_by_end k o)) (secrets_of (marked_end o k.label ks)) ≡ more k.label (secrets_of ks)
  at_end (Then q a) = refl
  at_end (Otherwise q a m) = refl
  at_end (Loop q) = refl

  at_again : (o : Opening) → more (secret_one (closed_by_again k o)) (secrets_of (marked_again o k.label ks)) ≡ more k.label (secrets_of ks)
  at_again (Then q a) = refl
  at_again (Otherwise q a m) = refl
  at_again (Loop q) = refl

module _ (A : ℕ → Bool) where
  counts : (ks : List (Marked Bool)) (p : ℕ) (i : Instruction) → more (secret_one (closed i ks)) (secrets_of (opens secrecy A ks p i)) ≡ more (labelled secrecy A i) (secrets_of ks)
  counts ks p (Do op) = refl
  counts ks p (If a) = refl
  counts [] p Else = refl
  counts (k ∷ ks) p Else = at_else k ks k.opening p
  counts [] p End = refl
  counts (k ∷ ks) p End = at_end k ks k.opening
  counts ks p (Repeat a n) = refl
  counts [] p Again = refl
  counts (k ∷ ks) p Again = at_again k ks k.opening

  -- one more where a secret if is opened, and one less where one is closed
  pub counted : (ks : List (Marked Bool)) (p : ℕ) (i : Instruction)
      → secrets_of (opens secrecy A ks p i) + bool_byte (secret_one (closed i ks)) ≡ secrets_of ks + bool_byte (labelled secrecy A i)
  counted ks p i =
      let e = counts ks p i in
      let f = more_byte (secret_one (closed i ks)) (secrets_of (opens secrecy A ks p i)) in
      let g = more_byte (labelled secrecy A i) (secrets_of ks) in
      omega arith

module _ (r : Refusal) where
  full : (ks : List (Marked Bool)) (why : Reason) (p : ℕ) → unless (ltb (length (unmarked ks)) 8) why p ≡ Some r → suc (length ks) ≤ 8 → ⊥
  full ks why p e h =
      let n = as_long ks in
      let t : ltb (length (unmarked ks)) 8 ≡ true = lt-ltb (length (unmarked ks)) 8 (omega arith) in
      no_some (sym (ap (λ b. unless b why p) (sym t) ∙ e))

  else_stays : (o : Opening) (l : Bool) (p : ℕ) (ks : List (Marked Bool)) → wrong (o ∷ unmarked ks) p Else ≡ Some r → marked_else o l p ks ≡ mark o l ∷ ks
  else_stays (Then q a) l p ks e = absurd (no_some (sym e))
  else_stays (Otherwise q a m) l p ks e = refl
  else_stays (Loop q) l p ks e = refl

  end_stays : (o : Opening) (l : Bool) (p : ℕ) (ks : List (Marked Bool)) → wrong (o ∷ unmarked ks) p End ≡ Some r → marked_end o l ks ≡ mark o l ∷ ks
  end_stays (Then q a) l p ks e = absurd (no_some (sym e))
  end_stays (Otherwise q a m) l p ks e = absurd (no_some (sym e))
  end_stays (Loop q) l p ks e = refl

  again_stays : (o : Opening) (l : Bool) (p : ℕ) (ks : List (Marked Bool)) → wrong (o ∷ unmarked ks) p Again ≡ Some r → marked_again o l ks ≡ mark o l ∷ ks
  again_stays (Then q a) l p ks e = refl
  again_stays (Otherwise q a m) l p ks e = refl
  again_stays (Loop q) l p ks e = absurd (no_some (sym e))

  -- an instruction that is refused, but not for want of room, leaves open what was open
  pub stays : (A : ℕ → Bool) (ks : List (Marked Bool)) (p : ℕ) (i : Instruction) → wrong (unmarked ks) p i ≡ Some r → length (opens secrecy A ks p i) ≤ 8 → opens secrecy A ks p i ≡ ks
  stays A ks p (Do op) e h = refl
  stays A ks p (If a) e h = absurd (full ks _ p e h)
  stays A [] p Else e h = refl
  stays A (k ∷ ks) p Else e h = else_stays k.opening k.label p ks e
  stays A [] p End e h = refl
  stays A (k ∷ ks) p End e h = end_stays k.opening k.label p ks e
  stays A ks p (Repeat a n) e h = absurd (full ks _ p e h)
  stays A [] p Again e h = refl
  stays A (k ∷ ks) p Again e h = again_stays k.opening k.label p ks e
