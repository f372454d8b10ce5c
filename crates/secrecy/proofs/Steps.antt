-- How one op carries labels, and ops in front of a block.
use Rattle.std.proofs.Common.{◌≡◌, ℕ, Bool, true, false, cond, ◌==◌, List, [], ◌∷◌, ◌++◌, None, eqb-true, sym, refl, ap, ◌∙◌}
use Rattle.std.proofs.lemmas.Bool.{both_ways, cond_both}
use Rattle.instructions.specs.declared.Op.{Op}
use Rattle.instructions.specs.declared.Op.TheVariants.{Set, Pick, Load, Store}
use Rattle.program.specs.Blocks.{Block, one}
use Rattle.labels.specs.Kinds.{secrecy}
use Rattle.labels.specs.Rules.{leaves, put}
use Rattle.conversion.specs.Refusing.{wrong_op}
use Rattle.conversion.specs.Trees.{ops}
use Rattle.secrecy.specs.Carried.{Carried}
use Rattle.secrecy.proofs.Public.{Public, sub, sub_refl}
use Rattle.secrecy.proofs.Carried.{weakens}

-- what a register has is what is put there, or what it had
pub put_either : (A : ℕ → Bool) (d : ℕ) (l v : Bool) (r : ℕ) → (r ≡ d → l ≡ v) → ((r == d) ≡ false → A r ≡ v) → put secrecy A d l r ≡ v
put_either A d l v r f g = cond_both (r == d) l (A r) (λ x. x ≡ v) (λ e. f (eqb-true r d e)) g

-- a register that is secret may get anything
pub put_kept : (A : ℕ → Bool) (d : ℕ) (l : Bool) → A d ≡ true → Public (put secrecy A d l) A
put_kept A d l h r e = put_either A d l false r (λ q. absurd (both_ways (A d) (ap A (sym q) ∙ e) h)) (λ q. e)

again : (c l m n a : Bool) → (n ≡ false → m ≡ false) → cond c n a ≡ false → cond c m (cond c l a) ≡ false
again true l m n a h e = h e
again false l m n a h e = e

-- what was put there before does not matter
pub put_again : (A : ℕ → Bool) (d : ℕ) (l m n : Bool) → (n ≡ false → m ≡ false) → Public (put secrecy (put secrecy A d l) d m) (put secrecy A d n)
put_again A d l m n h r e = again (r == d) l m n (A r) h e

pub ops_append : (xs ys : List Op) (k : Block Bool) → ops (xs ++ ys) k ≡ ops xs (ops ys k)
ops_append [] ys k = refl
ops_append (x ∷ xs) ys k = ap (one x) (ops_append xs ys k)

module _ (secret hidden : ℕ → Bool) (k : Block Bool) (B : ℕ → Bool) where
  pub step : (op : Op) (A C : ℕ → Bool) → wrong_op secret hidden A false op ≡ None → Public (leaves secrecy secret false op A) C
      → Carried secret hidden C k B → Carried secret hidden A (one op k) B
  step op A C w h c = (w, weakens secret hidden k C (leaves secrecy secret false op A) B B (sub _ _ h) (sub_refl B) c)

-- ops that only write registers that are secret already
abbrev pub Scratch : (ℕ → Bool) → List Op → Type 0
Scratch A [] = Unit {0}
Scratch A (Set d v ∷ os) = (A d ≡ true) × Scratch A os
Scratch A (Pick d a b ∷ os) = (A d ≡ true) × Scratch A os
Scratch A (Load d a t ∷ os) = ⊥
Scratch A (Store d a t ∷ os) = ⊥

pub scratch : (secret hidden : ℕ → Bool) (os : List Op) (k : Block Bool) (A B : ℕ → Bool) → Scratch A os → Carried secret hidden A k B → Carried secret hidden A (ops os k) B
scratch secret hidden [] k A B h c = c
scratch secret hidden (Set d v ∷ os) k A B h c = step secret hidden (ops os k) B (Set d v) A A refl (put_kept A d _ h.0) (scratch secret hidden os k A B h.1 c)
scratch secret hidden (Pick d a b ∷ os) k A B h c = step secret hidden (ops os k) B (Pick d a b) A A refl (put_kept A d _ h.0) (scratch secret hidden os k A B h.1 c)
scratch secret hidden (Load d a t ∷ os) k A B h c = absurd h
scratch secret hidden (Store d a t ∷ os) k A B h c = absurd h
