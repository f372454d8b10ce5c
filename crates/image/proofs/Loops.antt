-- The steps of the reader's loops.
use Rattle.std.proofs.Common.{◌≡◌, ℕ, suc, ◌+◌, ◌<◌, ◌≤◌, List, [], ◌∷◌, ◌++◌, map, length, get_or, take, drop, set, Some, None, sym, ap, ◌∙◌, add-one, arith}
use Rattle.std.proofs.lemmas.List.{at_drop_more, at_drop_all, set_at, drop_more, append_assoc, take_more, length-take-le, length-map, get_or-map, map-append, take_all}
use Rattle.instructions.specs.declared.Instruction.{Instruction}
use Rattle.instructions.specs.declared.Instruction.TheVariants.{Again}
use Rattle.program.specs.declared.opening.Opening.{Opening}
use Rattle.program.specs.declared.refusal.Refusal.{Refusal}
use Rattle.program.specs.Refusals.{or_else}
use Rattle.program.specs.Openings.{past}
use Rattle.program.specs.Pairing.{wrong, pairing, left_open}
use Rattle.image.specs.Images.{instruction_of}

module _ (chunks : List (List ℕ)) where
  code : List Instruction
  code = map instruction_of chunks

  here : (p : ℕ) → p < length chunks → get_or code p Again ≡ instruction_of (get_or chunks p [])
  unfolding code
  here p h = get_or-map instruction_of chunks p [] Again h

  -- one more instruction
  pairing_more : (os : List Opening) (p : ℕ) → p < length chunks → pairing os p (drop p code) ≡ or_else (wrong os p (instruction_of (get_or chunks p []))) (pairing (past p (instruction_of (get_or chunks p [])) os) (p + 1) (drop (p + 1) code))
  unfolding code
  pairing_more os p h =
      let next = λ (i : Instruction) (q : ℕ). or_else (wrong os p i) (pairing (past p i os) q (drop (p + 1) code)) in
      let more : pairing os p (drop p code) ≡ next (get_or code p Again) (suc p) = at_drop_more (pairing os p) code p Again (omega (arith, length-map chunks instruction_of)) in
      more ∙ (λ t. next (here p h t) (sym (add-one p) t))

  module _ (os : List Opening) (p : ℕ) (h : p < length chunks) (so_far : pairing os p (drop p (map instruction_of chunks)) ≡ pairing [] 0 (map instruction_of chunks)) where
    pub brackets_more : None ≡ wrong os p (instruction_of (get_or chunks p [])) → pairing (past p (instruction_of (get_or chunks p [])) os) (p + 1) (drop (p + 1) (map instruction_of chunks)) ≡ pairing [] 0 (map instruction_of chunks)
    unfolding code
    brackets_more e = ap (λ x. or_else x (pairing (past p (instruction_of (get_or chunks p [])) os) (p + 1) (drop (p + 1) code))) e ∙ sym (pairing_more os p h) ∙ so_far

    pub brackets_stop : (r : Refusal) → Some r ≡ wrong os p (instruction_of (get_or chunks p [])) → Some r ≡ pairing [] 0 (map instruction_of chunks)
    unfolding code
    brackets_stop r e = ap (λ x. or_else x (pairing (past p (instruction_of (get_or chunks p [])) os) (p + 1) (drop (p + 1) code))) e ∙ sym (pairing_more os p h) ∙ so_far

  pub brackets_end : (os : List Opening) (p : ℕ) → length chunks ≤ p → pairing os p (drop p (map instruction_of chunks)) ≡ pairing [] 0 (map instruction_of chunks) → left_open os ≡ pairing [] 0 (map instruction_of chunks)
  brackets_end os p h so_far = sym (at_drop_all (pairing os p) (map instruction_of chunks) p (omega (arith, length-map chunks instruction_of))) ∙ so_far

  pub fill_more : (xs ys : List Instruction) (p : ℕ) (x : Instruction) → p < length chunks → length chunks ≤ length xs → ys ≡ map instruction_of (take p chunks) ++ drop p xs → x ≡ instruction_of (get_or chunks p []) → set ys p x ≡ map instruction_of (take (p + 1) chunks) ++ drop (p + 1) xs
  fill_more xs ys p x h room e f =
      let front = map instruction_of (take p chunks) in
      let i = instruction_of (get_or chunks p []) in
      let long : length front ≡ p = length-map (take p chunks) instruction_of ∙ length-take-le p chunks (omega arith) in
      let more = ap (map instruction_of) (take_more chunks p [] h) ∙ map-append instruction_of (take p chunks) (get_or chunks p [] ∷ []) in
      (λ t. set (e t) p (f t))
      ∙ ap (λ zs. set (front ++ zs) p i) (drop_more xs p Again (omega arith))
      ∙ set_at front (get_or xs p Again) (drop (p + 1) xs) i p long
      ∙ sym (ap (λ zs. zs ++ drop (p + 1) xs) more ∙ append_assoc front (i ∷ []) (drop (p + 1) xs))

  pub fill_end : (xs ys : List Instruction) (p : ℕ) → p ≡ length chunks → ys ≡ map instruction_of (take p chunks) ++ drop p xs → ys ≡ map instruction_of chunks ++ drop (length chunks) xs
  fill_end xs ys p is e = e ∙ (λ t. map instruction_of ((ap (λ n. take n chunks) is ∙ take_all (length chunks) chunks (omega arith)) t) ++ drop (is t) xs)
