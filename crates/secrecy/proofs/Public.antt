-- Sets of secret registers, by what is public: what is public in the larger is so in the smaller.
use Rattle.std.proofs.Common.{◌≡◌, ℕ, Bool, true, false, cond, ◌||◌, ◌==◌, refl, arith}
use Rattle.std.proofs.lemmas.Bool.{or_from, or_parts}
use Rattle.labels.specs.Kinds.{secrecy}
use Rattle.labels.specs.Sets.{either}
use Rattle.labels.specs.Rules.{Sub, put}

below : (a b : Bool) → (a || b) ≡ b → b ≡ false → a ≡ false
below true b h e = cc
below false b h e = refl

joins : (a b : Bool) → (b ≡ false → a ≡ false) → (a || b) ≡ b
joins a true h = grind arith
joins a false h = grind (arith, h refl)

-- what is public in B is so in A
abbrev pub Public : (ℕ → Bool) → (ℕ → Bool) → Type 0
Public A B = (r : ℕ) → B r ≡ false → A r ≡ false

pub publics : (A B : ℕ → Bool) → Sub secrecy A B → Public A B
publics A B h r e = below (A r) (B r) (h r) e

pub sub : (A B : ℕ → Bool) → Public A B → Sub secrecy A B
sub A B h r = joins (A r) (B r) (h r)

pub sub_refl : (A : ℕ → Bool) → Sub secrecy A A
sub_refl A = sub A A (λ r e. e)

pub sub_trans : (A B C : ℕ → Bool) → Sub secrecy A B → Sub secrecy B C → Sub secrecy A C
sub_trans A B C f g = sub A C (λ r e. publics A B f r (publics B C g r e))

pub either_sub : (A B C : ℕ → Bool) → Sub secrecy A C → Sub secrecy B C → Sub secrecy (either A B) C
either_sub A B C f g = sub (either A B) C (λ r e. or_from (A r) (B r) (publics A C f r e) (publics B C g r e))

pub sub_left : (A B : ℕ → Bool) → Sub secrecy A (either A B)
sub_left A B = sub A (either A B) (λ r e. (or_parts (A r) (B r) e).0)

pub sub_right : (A B : ℕ → Bool) → Sub secrecy B (either A B)
sub_right A B = sub B (either A B) (λ r e. (or_parts (A r) (B r) e).1)

-- a case that keeps what holds of both
pub cond_public : (c a b x y : Bool) → (x ≡ false → a ≡ false) → (y ≡ false → b ≡ false) → cond c x y ≡ false → cond c a b ≡ false
cond_public true a b x y f g e = f e
cond_public false a b x y f g e = g e

pub put_public : (A B : ℕ → Bool) (d : ℕ) (l m : Bool) → Public A B → (m ≡ false → l ≡ false) → Public (put secrecy A d l) (put secrecy B d m)
put_public A B d l m h f r e = cond_public (r == d) l (A r) m (B r) f (h r) e
