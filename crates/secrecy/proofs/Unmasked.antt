-- Where no if is secret, a labelled source carries its labels.
use Rattle.std.proofs.Common.{ℕ, suc, Bool, true, false, true≢false}
use Rattle.program.specs.Blocks.{Block, done, one, if_then, if_else, loop, fin}
use Rattle.labels.specs.Kinds.{secrecy}
use Rattle.labels.specs.Sets.{either}
use Rattle.labels.specs.Rules.{Sub, leaves}
use Rattle.conversion.specs.Labelling.{Labelled}
use Rattle.secrecy.specs.Carried.{Carried}
use Rattle.secrecy.specs.Unmasked.{Unmasked, UnmaskedCarries}
use Rattle.secrecy.proofs.Public.{sub_refl, either_sub, sub_left, sub_right}
use Rattle.secrecy.proofs.Carried.{weakens}

module _ (secret hidden : ℕ → Bool) (S : ℕ → ℕ → Bool) where
  abbrev Goes : (ℕ → Bool) → Block Bool → (ℕ → Bool) → Type 0
  Goes A b B = Carried secret hidden A b B

  less : (A C B : ℕ → Bool) (b : Block Bool) → Sub secrecy A C → Goes C b B → Goes A b B
  less A C B b f c = weakens secret hidden b C A B B f (sub_refl B) c

  more : (A B D : ℕ → Bool) (b : Block Bool) → Sub secrecy B D → Goes A b B → Goes A b D
  more A B D b f c = weakens secret hidden b A A B D (sub_refl A) f c

  carries : (b : Block Bool) (p : ℕ) → Unmasked b → Labelled secret hidden S 0 b p → Goes (S p) b (S (fin b p))
  carries done p u l = sub_refl (S p)
  carries (one op b) p u l = (l.0, less (leaves secrecy secret false op (S p)) (S (suc p)) (S (fin b (suc p))) b l.1 (carries b (suc p) u l.2))
  carries (if_then true a t b) p u l = absurd (true≢false u.0)
  carries (if_then false a t b) p u l =
      let q = fin t (suc p) in (
        l.0,
        (
          S q,
          less (S p) (S (suc p)) (S q) t l.1 (carries t (suc p) u.1 l.3),
          l.2,
          less (S q) (S (suc q)) (S (fin b (suc q))) b l.4 (carries b (suc q) u.2 l.5),
        ),
      )
  carries (if_else true a t e b) p u l = absurd (true≢false u.0)
  carries (if_else false a t e b) p u l =
      let q = fin t (suc p) in
      let r = fin e (suc q) in (
        l.0,
        (
          S r,
          less (S p) (S (suc p)) (S r) t l.1 (more (S (suc p)) (S q) (S r) t l.4 (carries t (suc p) u.1 l.5)),
          less (S p) (S (suc q)) (S r) e l.2 (carries e (suc q) u.2 l.6),
          less (S r) (S (suc r)) (S (fin b (suc r))) b l.7 (carries b (suc r) u.3 l.8),
        ),
      )
  carries (loop a n t b) p u l =
      let q = fin t (suc p) in
      let C = either (S p) (S q) in (
        l.0,
        (
          C,
          sub_left (S p) (S q),
          less C (S (suc p)) C t (either_sub (S p) (S q) (S (suc p)) l.1 l.3) (more (S (suc p)) (S q) C t (sub_right (S p) (S q)) (carries t (suc p) u.0 l.5)),
          less C (S (suc q)) (S (fin b (suc q))) b (either_sub (S p) (S q) (S (suc q)) l.2 l.4) (carries b (suc q) u.1 l.6),
        ),
      )

pub unmasked_carries : UnmaskedCarries
unmasked_carries secret hidden S b p u l = carries secret hidden S b p u l
