-- A place becomes fifteen instructions at most.
use Rattle.std.proofs.Common.{◌≡◌, ℕ, zero, suc, ◌+◌, ◌≤◌, Bool, true, false, cond, List, [], ◌∷◌, ◌++◌, length, get_or, Some, None, Option, ap, arith, length-append}
use Rattle.instructions.specs.declared.Op.{Op}
use Rattle.instructions.specs.declared.Op.TheVariants.{Set, Pick, Load, Store}
use Rattle.instructions.specs.declared.Instruction.{Instruction}
use Rattle.instructions.specs.declared.Instruction.TheVariants.{Do, If, Else, End, Repeat, Again}
use Rattle.program.specs.declared.opening.Marked.{Marked}
use Rattle.masks.specs.Counts.{secrets_of}
use Rattle.groups.specs.Groups.{straight, mask_at, op_group}
use Rattle.conversion.specs.Conversion.{secret_if, secret_else, becomes}

module _ (long : ℕ → ℕ) (p : ℕ) where
  op_short : (mask : Option ℕ) (op : Op) → length (straight (op_group long mask p op)) ≤ 15
  op_short None (Set d v) = omega arith
  op_short None (Pick d a b) = omega arith
  op_short None (Load d a t) = omega arith
  op_short None (Store d a t) = omega arith
  op_short (Some m) (Set d v) = omega arith
  op_short (Some m) (Pick d a b) = omega arith
  op_short (Some m) (Load d a t) = omega arith
  op_short (Some m) (Store d a t) = omega arith

  if_short : (secret : Bool) (s a : ℕ) → length (cond secret (secret_if s a) (If a ∷ [])) ≤ 15
  if_short true zero a = omega arith
  if_short true (suc n) a = omega arith
  if_short false s a = omega arith

  else_short : (secret : Bool) (s : ℕ) → length (cond secret (secret_else s) (Else ∷ [])) ≤ 15
  else_short true zero = omega arith
  else_short true (suc n) = omega arith
  else_short false s = omega arith

  end_short : (secret : Bool) → length (cond secret [] (End ∷ [])) ≤ 15
  end_short true = omega arith
  end_short false = omega arith

  pub becomes_short : (A : ℕ → Bool) (ks : List (Marked Bool)) (i : Instruction) → length (becomes long A ks p i) ≤ 15
  becomes_short A ks (Do op) = op_short (mask_at (secrets_of ks)) op
  becomes_short A ks (If a) = if_short (A a) (secrets_of ks) a
  becomes_short A [] Else = omega arith
  becomes_short A (k ∷ ks) Else = else_short k.label _
  becomes_short A [] End = omega arith
  becomes_short A (k ∷ ks) End = end_short k.label
  becomes_short A ks (Repeat a k) = omega arith
  becomes_short A ks Again = omega arith

  pub longer : (A : ℕ → Bool) (ks : List (Marked Bool)) (code : List Instruction) (i : Instruction) (w w' : List Instruction) → i ≡ get_or code p Again → w' ≡ w ++ becomes long A ks p i → length w' ≤ length w + 15
  longer A ks code i w w' x e =
      let h = becomes_short A ks i in
      let n = ap length e in
      omega (arith, length-append w (becomes long A ks p i))
