-- Labels may be weakened: less secret on arriving, more on leaving.
use Rattle.std.proofs.Common.{◌≡◌, ℕ, Bool, true, false, ◌||◌, None, refl, arith}
use Rattle.std.proofs.lemmas.Bool.{or_parts, or_from}
use Rattle.instructions.specs.declared.Value.{Value}
use Rattle.instructions.specs.declared.Value.TheVariants.{Const, Move, Binary, Shift}
use Rattle.instructions.specs.declared.Op.{Op}
use Rattle.instructions.specs.declared.Op.TheVariants.{Set, Pick, Load, Store}
use Rattle.program.specs.Blocks.{done, one, if_then, if_else, loop}
use Rattle.labels.specs.Kinds.{secrecy}
use Rattle.labels.specs.Rules.{read_by, leaves}
use Rattle.conversion.specs.Refusing.{wrong_op}
use Rattle.secrecy.specs.Carried.{Weakens}
use Rattle.secrecy.proofs.Public.{Public, publics, sub, sub_refl, sub_trans, put_public}
use Rattle.secrecy.proofs.Passing.{load_passes, load_passing, store_passes, store_passing}

module _ (A B : ℕ → Bool) (h : Public A B) where
  secret_up : (a : ℕ) → A a ≡ true → B a ≡ true
  secret_up a e = let f = h a in grind arith

  read_public : (v : Value) → read_by secrecy v B ≡ false → read_by secrecy v A ≡ false
  read_public (Const k) e = e
  read_public (Move a) e = h a e
  read_public (Binary op a b) e = let p = or_parts (B a) (B b) e in or_from (A a) (A b) (h a p.0) (h b p.1)
  read_public (Shift op a k) e = h a e

  module _ (secret : ℕ → Bool) where
    leaves_public : (op : Op) → Public (leaves secrecy secret false op A) (leaves secrecy secret false op B)
    leaves_public (Set d v) = put_public A B d _ _ h (read_public v)
    leaves_public (Pick d a b) =
        put_public A B d _ _ h
        (λ e.
        let p = or_parts (B d) (B a || B b) e in
        let q = or_parts (B a) (B b) p.1 in
        or_from (A d) (A a || A b) (h d p.0) (or_from (A a) (A b) (h a q.0) (h b q.1)))
    leaves_public (Load d a t) =
        put_public A B d _ _ h (λ e. let p = or_parts (B a) (secret t) e in or_from (A a) (secret t) (h a p.0) p.1)
    leaves_public (Store d a t) = h

    wrong_public : (hidden : ℕ → Bool) (op : Op) → wrong_op secret hidden B false op ≡ None → wrong_op secret hidden A false op ≡ None
    wrong_public hidden (Set d v) e = refl
    wrong_public hidden (Pick d a b) e = refl
    wrong_public hidden (Load d a t) e =
        load_passing secret hidden A false d a t (λ f. load_passes secret hidden B false d a t e (secret_up a f))
    wrong_public hidden (Store d a t) e =
        let p = store_passes secret hidden B false d a t e in
        store_passing secret hidden A false d a t (λ f. p.0 (secret_up a f)) (λ f. let q = p.1 f in (refl, h d q.1, h a q.2))

pub weakens : {Note : Type 0} → Weakens Note
weakens secret hidden done A A' B B' f g c = sub_trans A' B B' (sub_trans A' A B f c) g
weakens secret hidden (one op b) A A' B B' f g c =
    (wrong_public A' A (publics A' A f) secret hidden op c.0, weakens secret hidden b (leaves secrecy secret false op A) (leaves secrecy secret false op A') B B' (sub _ _ (leaves_public A' A (publics A' A f) secret op)) g c.1)
weakens secret hidden (if_then n a t b) A A' B B' f g c =
    let d = c.1 in
    (publics A' A f a c.0, (d.0, weakens secret hidden t A A' d.0 d.0 f (sub_refl d.0) d.1, sub_trans A' A d.0 f d.2, weakens secret hidden b d.0 d.0 B B' (sub_refl d.0) g d.3))
weakens secret hidden (if_else n a t e b) A A' B B' f g c =
    let d = c.1 in
    (publics A' A f a c.0, (d.0, weakens secret hidden t A A' d.0 d.0 f (sub_refl d.0) d.1, weakens secret hidden e A A' d.0 d.0 f (sub_refl d.0) d.2, weakens secret hidden b d.0 d.0 B B' (sub_refl d.0) g d.3))
weakens secret hidden (loop a k t b) A A' B B' f g c =
    let d = c.1 in
    (publics A' A f a c.0, (d.0, sub_trans A' A d.0 f d.1, d.2, weakens secret hidden b d.0 d.0 B B' (sub_refl d.0) g d.3))
