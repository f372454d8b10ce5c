-- What the instructions of nested blocks become is the writing-out of what the blocks become, and is no deeper.
use Rattle.std.proofs.Common.{◌≡◌, ℕ, suc, ◌+◌, ◌≤◌, max, Bool, true, false, cond, List, [], ◌∷◌, ◌++◌, refl, sym, ap, ◌∙◌, arith}
use Rattle.instructions.specs.declared.Op.{Op}
use Rattle.instructions.specs.declared.Instruction.{Instruction}
use Rattle.instructions.specs.declared.Instruction.TheVariants.{Do, If, Else, End, Repeat, Again}
use Rattle.program.specs.declared.opening.Opening.TheVariants.{Then, Otherwise, Loop}
use Rattle.program.specs.declared.opening.Marked.{Marked}
use Rattle.program.specs.Blocks.{Block, done, one, if_then, if_else, loop, flat, depth, fin}
use Rattle.brackets.specs.Labelled.{mark}
use Rattle.masks.specs.Counts.{secrets_of}
use Rattle.groups.specs.Groups.{straight, mask_at, op_group, if_group, else_group}
use Rattle.conversion.specs.Conversion.{secret_if, convert}
use Rattle.conversion.specs.Trees.{Noted, ops, converted}

ops_flat : (os : List Op) (k : Block Bool) (rest : List Instruction) → flat (ops os k) rest ≡ straight os ++ flat k rest
ops_flat [] k rest = refl
ops_flat (o ∷ os) k rest = ap (λ l. Do o ∷ l) (ops_flat os k rest)

ops_depth : (os : List Op) (k : Block Bool) → depth (ops os k) ≡ depth k
ops_depth [] k = refl
ops_depth (o ∷ os) k = ops_depth os k

module _ (long : ℕ → ℕ) where
  -- ops in front of what is written out
  led : (os : List Op) (k : Block Bool) (out l : List Instruction) → flat k out ≡ l → flat (ops os k) out ≡ straight os ++ l
  led os k out l h = ops_flat os k out ∙ ap (λ x. straight os ++ x) h

  module _ (S : ℕ → ℕ → Bool) where
    -- what an if becomes, by its note
    on_if : (ks : List (Marked Bool)) (p a : ℕ) (c : Bool) (is : List Instruction) → S p a ≡ c
        → cond c (secret_if (secrets_of ks) a) (If a ∷ []) ++ convert long S (mark (Then p a) c ∷ ks) (suc p) is ≡ convert long S ks p (If a ∷ is)
    on_if ks p a c is h = sym (λ i. cond (h i) (secret_if (secrets_of ks) a) (If a ∷ []) ++ convert long S (mark (Then p a) (h i) ∷ ks) (suc p) is)

    -- in front of what is written out already
    pub converted_flat : (b : Block Bool) (ks : List (Marked Bool)) (p : ℕ) (k : Block Bool) (rest out : List Instruction)
        → Noted S b p → flat k out ≡ convert long S ks (fin b p) rest → flat (converted long (secrets_of ks) b p k) out ≡ convert long S ks p (flat b rest)
    converted_flat done ks p k rest out n h = h
    converted_flat (one op b) ks p k rest out n h = led _ _ out _ (converted_flat b ks (suc p) k rest out n h)
    converted_flat (if_then true a t b) ks p k rest out n h =
        let q = fin t (suc p) in
        let js = mark (Then p a) true ∷ ks in
        let y = converted_flat b ks (suc q) k rest out n.2 h in
        let x = converted_flat t js (suc p) _ (End ∷ flat b rest) out n.1 y in
        led (if_group (mask_at (secrets_of ks)) (16 + secrets_of ks) a) _ out _ x ∙ on_if ks p a true _ n.0
    converted_flat (if_then false a t b) ks p k rest out n h =
        let q = fin t (suc p) in
        let js = mark (Then p a) false ∷ ks in
        let y = converted_flat b ks (suc q) k rest out n.2 h in
        let x = converted_flat t js (suc p) done (End ∷ flat b rest) _ n.1 (ap (λ l. End ∷ l) y) in
        ap (λ l. If a ∷ l) x ∙ on_if ks p a false _ n.0
    converted_flat (if_else true a t e b) ks p k rest out n h =
        let q = fin t (suc p) in
        let r = fin e (suc q) in
        let js = mark (Then p a) true ∷ ks in
        let ls = mark (Otherwise p a q) true ∷ ks in
        let z = converted_flat b ks (suc r) k rest out n.3 h in
        let tail = converted long (secrets_of ks) b (suc r) k in
        let y = converted_flat e ls (suc q) tail (End ∷ flat b rest) out n.2 z in
        let turn = else_group (mask_at (secrets_of ks)) (16 + secrets_of ks) in
        let other = converted long (suc (secrets_of ks)) e (suc q) tail in
        let x = converted_flat t js (suc p) (ops turn other) (Else ∷ flat e (End ∷ flat b rest)) out n.1 (led turn other out _ y) in
        led (if_group (mask_at (secrets_of ks)) (16 + secrets_of ks) a) _ out _ x ∙ on_if ks p a true _ n.0
    converted_flat (if_else false a t e b) ks p k rest out n h =
        let q = fin t (suc p) in
        let r = fin e (suc q) in
        let js = mark (Then p a) false ∷ ks in
        let ls = mark (Otherwise p a q) false ∷ ks in
        let z = converted_flat b ks (suc r) k rest out n.3 h in
        let y = converted_flat e ls (suc q) done (End ∷ flat b rest) _ n.2 (ap (λ l. End ∷ l) z) in
        let x = converted_flat t js (suc p) done (Else ∷ flat e (End ∷ flat b rest)) _ n.1 (ap (λ l. Else ∷ l) y) in
        ap (λ l. If a ∷ l) x ∙ on_if ks p a false _ n.0
    converted_flat (loop a m t b) ks p k rest out n h =
        let q = fin t (suc p) in
        let js = mark (Loop p) false ∷ ks in
        let y = converted_flat b ks (suc q) k rest out n.1 h in
        let x = converted_flat t js (suc p) done (Again ∷ flat b rest) _ n.0 (ap (λ l. Again ∷ l) y) in
        ap (λ l. Repeat a m ∷ l) x

  pub converted_depth : (b : Block Bool) (s p : ℕ) (k : Block Bool) → depth (converted long s b p k) ≤ max (depth b) (depth k)
  converted_depth done s p k = omega arith
  converted_depth (one op b) s p k =
      let o = ops_depth (op_group long (mask_at s) p op) (converted long s b (suc p) k) in
      let x = converted_depth b s (suc p) k in
      omega arith
  converted_depth (if_then true a t b) s p k =
      let q = fin t (suc p) in
      let tail = converted long s b (suc q) k in
      let o = ops_depth (if_group (mask_at s) (16 + s) a) (converted long (suc s) t (suc p) tail) in
      let x = converted_depth t (suc s) (suc p) tail in
      let y = converted_depth b s (suc q) k in
      omega arith
  converted_depth (if_then false a t b) s p k =
      let x = converted_depth t s (suc p) done in
      let y = converted_depth b s (suc (fin t (suc p))) k in
      omega arith
  converted_depth (if_else true a t e b) s p k =
      let q = fin t (suc p) in
      let tail = converted long s b (suc (fin e (suc q))) k in
      let other = converted long (suc s) e (suc q) tail in
      let o = ops_depth (if_group (mask_at s) (16 + s) a) (converted long (suc s) t (suc p) (ops (else_group (mask_at s) (16 + s)) other)) in
      let u = ops_depth (else_group (mask_at s) (16 + s)) other in
      let x = converted_depth t (suc s) (suc p) (ops (else_group (mask_at s) (16 + s)) other) in
      let y = converted_depth e (suc s) (suc q) tail in
      let z = converted_depth b s (suc (fin e (suc q))) k in
      omega arith
  converted_depth (if_else false a t e b) s p k =
      let q = fin t (suc p) in
      let x = converted_depth t s (suc p) done in
      let y = converted_depth e s (suc q) done in
      let z = converted_depth b s (suc (fin e (suc q))) k in
      omega arith
  converted_depth (loop a m t b) s p k =
      let x = converted_depth t s (suc p) done in
      let y = converted_depth b s (suc (fin t (suc p))) k in
      omega arith
