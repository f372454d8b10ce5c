-- Nested blocks with their ifs noted afresh, as S has their registers.
use Rattle.std.proofs.Common.{◌≡◌, ℕ, suc, max, Bool, List, ◌∷◌, refl, sym, ap, ◌∙◌, subst}
use Rattle.instructions.specs.declared.Instruction.{Instruction}
use Rattle.instructions.specs.declared.Instruction.TheVariants.{Do, If, Else, End, Repeat, Again}
use Rattle.program.specs.Blocks.{Block, done, one, if_then, if_else, loop, flat, depth, fin}
use Rattle.conversion.specs.Trees.{Noted}

module _ {Note : Type 0} (S : ℕ → ℕ → Bool) where
  -- the block that begins at p
  abbrev pub note : Block Note → ℕ → Block Bool
  note done p = done
  note (one op b) p = one op (note b (suc p))
  note (if_then n a t b) p = if_then (S p a) a (note t (suc p)) (note b (suc (fin t (suc p))))
  note (if_else n a t e b) p =
      let q = fin t (suc p) in
      if_else (S p a) a (note t (suc p)) (note e (suc q)) (note b (suc (fin e (suc q))))
  note (loop a k t b) p = loop a k (note t (suc p)) (note b (suc (fin t (suc p))))

  -- it is the same row
  pub note_flat : (b : Block Note) (p : ℕ) (rest : List Instruction) → flat (note b p) rest ≡ flat b rest
  note_flat done p rest = refl
  note_flat (one op b) p rest = ap (λ l. Do op ∷ l) (note_flat b (suc p) rest)
  note_flat (if_then n a t b) p rest =
      ap (λ l. If a ∷ l) (note_flat t (suc p) _ ∙ ap (λ l. flat t (End ∷ l)) (note_flat b (suc (fin t (suc p))) rest))
  note_flat (if_else n a t e b) p rest =
      let q = fin t (suc p) in
      ap (λ l. If a ∷ l) (note_flat t (suc p) _ ∙ ap (λ l. flat t (Else ∷ l)) (note_flat e (suc q) _ ∙ ap (λ l. flat e (End ∷ l)) (note_flat b (suc (fin e (suc q))) rest)))
  note_flat (loop a k t b) p rest =
      ap (λ l. Repeat a k ∷ l) (note_flat t (suc p) _ ∙ ap (λ l. flat t (Again ∷ l)) (note_flat b (suc (fin t (suc p))) rest))

  -- as deep
  pub note_depth : (b : Block Note) (p : ℕ) → depth (note b p) ≡ depth b
  note_depth done p = refl
  note_depth (one op b) p = note_depth b (suc p)
  note_depth (if_then n a t b) p =
      let x = note_depth t (suc p) in
      let y = note_depth b (suc (fin t (suc p))) in
      (λ i. max (suc (x i)) (y i))
  note_depth (if_else n a t e b) p =
      let q = fin t (suc p) in
      let x = note_depth t (suc p) in
      let y = note_depth e (suc q) in
      let z = note_depth b (suc (fin e (suc q))) in
      (λ i. max (suc (max (x i) (y i))) (z i))
  note_depth (loop a k t b) p =
      let x = note_depth t (suc p) in
      let y = note_depth b (suc (fin t (suc p))) in
      (λ i. max (suc (x i)) (y i))

  -- as long
  pub note_fin : (b : Block Note) (p q : ℕ) → fin (note b p) q ≡ fin b q
  note_fin done p q = refl
  note_fin (one op b) p q = note_fin b (suc p) (suc q)
  note_fin (if_then n a t b) p q = note_fin b _ _ ∙ ap (λ x. fin b (suc x)) (note_fin t (suc p) (suc q))
  note_fin (if_else n a t e b) p q =
      note_fin b _ _ ∙ (ap (λ x. fin b (suc x)) (note_fin e _ _) ∙ ap (λ x. fin b (suc (fin e (suc x)))) (note_fin t (suc p) (suc q)))
  note_fin (loop a k t b) p q = note_fin b _ _ ∙ ap (λ x. fin b (suc x)) (note_fin t (suc p) (suc q))

  -- and noted by S
  pub note_noted : (b : Block Note) (p : ℕ) → Noted S (note b p) p
  note_noted done p = tt
  note_noted (one op b) p = note_noted b (suc p)
  note_noted (if_then n a t b) p =
      let q = fin t (suc p) in
      let x = sym (note_fin t (suc p) (suc p)) in
      (refl, note_noted t (suc p), subst (λ m. Noted S (note b (suc q)) (suc m)) x (note_noted b (suc q)))
  note_noted (if_else n a t e b) p =
      let q = fin t (suc p) in
      let r = fin e (suc q) in
      let x = sym (note_fin t (suc p) (suc p)) in
      let y = sym (note_fin e (suc q) (suc q)) ∙ ap (λ m. fin (note e (suc q)) (suc m)) x in (
        refl,
        note_noted t (suc p),
        subst (λ m. Noted S (note e (suc q)) (suc m)) x (note_noted e (suc q)),
        subst (λ m. Noted S (note b (suc r)) (suc m)) y (note_noted b (suc r)),
      )
  note_noted (loop a k t b) p =
      let q = fin t (suc p) in
      let x = sym (note_fin t (suc p) (suc p)) in
      (note_noted t (suc p), subst (λ m. Noted S (note b (suc q)) (suc m)) x (note_noted b (suc q)))
