-- The bits of a number, as a set of registers.
use Rattle.std.proofs.Common.{◌≡◌, ℕ, zero, suc, ◌+◌, ◌-◌, ◌/◌, ◌%◌, ◌^◌, ◌<◌, ◌≤◌, Bool, true, false, cond, ◌||◌, eqb, sym, refl, ap, ◌∙◌, subst, ⊎_elim, arith}
use mathlib.Core.Path.{fun_ext}
use native.Mathlib.Nat.{div-eq_of_lt}
use lib.Bits.{bit_and, bit_or, bit_xor}
use Rattle.std.proofs.lemmas.Nat.{or_shr, or_mod, and_shr, and_mod, xor_shr, xor_mod, pow-add, shl-shr, pow_pos, pow_below}
use Rattle.std.proofs.lemmas.Bool.{cases_order}
use Rattle.labels.specs.Kinds.{secrecy}
use Rattle.labels.specs.Rules.{put}
use Rattle.labels.specs.Sets.{bits, either}

one_or : (x y : ℕ) → x < 2 → y < 2 → eqb (bit_or x y) 1 ≡ (eqb x 1 || eqb y 1)
one_or zero zero h k = refl
one_or zero (suc zero) h k = refl
one_or zero (suc (suc y)) h k = absurd (omega arith)
one_or (suc zero) zero h k = refl
one_or (suc zero) (suc zero) h k = refl
one_or (suc zero) (suc (suc y)) h k = absurd (omega arith)
one_or (suc (suc x)) y h k = absurd (omega arith)

-- x without what x and e share
one_less : (x e : ℕ) → x < 2 → e < 2 → eqb (bit_xor x (bit_and x e)) 1 ≡ cond (eqb e 1) false (eqb x 1)
one_less zero zero h k = refl
one_less zero (suc zero) h k = refl
one_less zero (suc (suc y)) h k = absurd (omega arith)
one_less (suc zero) zero h k = refl
one_less (suc zero) (suc zero) h k = refl
one_less (suc zero) (suc (suc y)) h k = absurd (omega arith)
one_less (suc (suc x)) y h k = absurd (omega arith)

pub bits_or : (a b : ℕ) → bits (bit_or a b) ≡ either (bits a) (bits b)
bits_or a b =
    fun_ext (λ r. ap (λ x. eqb (x % 2) 1) (or_shr a b r) ∙ ap (λ x. eqb x 1) (or_mod (a / 2 ^ r) (b / 2 ^ r) 1) ∙ one_or (a / 2 ^ r % 2) (b / 2 ^ r % 2) (omega arith) (omega arith))

bits_less : (a e r : ℕ) → bits (bit_xor a (bit_and a e)) r ≡ cond (bits e r) false (bits a r)
bits_less a e r =
    ap (λ x. eqb (x % 2) 1) (xor_shr a (bit_and a e) r ∙ ap (λ x. bit_xor (a / 2 ^ r) x) (and_shr a e r))
    ∙ ap (λ x. eqb x 1) (xor_mod (a / 2 ^ r) (bit_and (a / 2 ^ r) (e / 2 ^ r)) 1 ∙ ap (λ x. bit_xor (a / 2 ^ r % 2) x) (and_mod (a / 2 ^ r) (e / 2 ^ r) 1))
    ∙ one_less (a / 2 ^ r % 2) (e / 2 ^ r % 2) (omega arith) (omega arith)

eqb_yes : (a b : ℕ) → a ≡ b → eqb a b ≡ true
eqb_yes a b h = grind (arith)

eqb_not : (a b : ℕ) → (a ≡ b → ⊥) → eqb a b ≡ false
eqb_not a b h = grind (arith)

power_above : (d k : ℕ) → 2 ^ (d + suc k) / 2 ^ d % 2 ≡ 0
power_above d k =
    let e : d + suc k ≡ (k + 1) + d = omega arith in
    ap (λ x. 2 ^ x / 2 ^ d % 2) e ∙ ap (λ x. x / 2 ^ d % 2) (pow-add 2 (k + 1) d) ∙ ap (λ x. x % 2) (shl-shr (2 ^ (k + 1)) d ∙ pow-add 2 k 1) ∙ omega arith

small : (a b : ℕ) → a < b → a / b ≡ 0
small a b h = div-eq_of_lt h

bits_power : (d r : ℕ) → bits (2 ^ d) r ≡ eqb r d
bits_power d r =
    ⊎_elim
    (λ (e : r ≡ d).
    let s : 2 ^ d / 2 ^ r ≡ 1 = ap (λ x. 2 ^ d / 2 ^ x) e ∙ ap (λ x. x / 2 ^ d) (omega arith) ∙ shl-shr 1 d in
    ap (λ x. eqb (x % 2) 1) s ∙ sym (eqb_yes r d e))
    (λ other.
    ⊎_elim
    (λ (l : r < d).
    let s : d ≡ r + suc (d - suc r) = omega arith in
    ap (λ x. eqb x 1) (ap (λ x. 2 ^ x / 2 ^ r % 2) s ∙ power_above r (d - suc r)) ∙ sym (eqb_not r d (λ h. omega arith)))
    (λ (l : d < r).
    let s : 2 ^ d / 2 ^ r ≡ 0 = small (2 ^ d) (2 ^ r) (pow_below d r l) in
    ap (λ x. eqb (x % 2) 1) s ∙ sym (eqb_not r d (λ h. omega arith)))
    other)
    (cases_order r d)

or_true : (a c : Bool) → (a || c) ≡ cond c true a
or_true true true = refl
or_true true false = refl
or_true false true = refl
or_true false false = refl

pub bits_in : (x d b : ℕ) → b ≡ 2 ^ d → bits (bit_or x b) ≡ put secrecy (bits x) d true
bits_in x d b e = ap (λ y. bits (bit_or x y)) e ∙ bits_or x (2 ^ d) ∙ fun_ext (λ r. or_true (bits x r) (bits (2 ^ d) r) ∙ ap (λ c. cond c true (bits x r)) (bits_power d r))

pub bits_out : (x d b : ℕ) → b ≡ 2 ^ d → bits (bit_xor x (bit_and x b)) ≡ put secrecy (bits x) d false
bits_out x d b e = ap (λ y. bits (bit_xor x (bit_and x y))) e ∙ fun_ext (λ r. bits_less x (2 ^ d) r ∙ ap (λ c. cond c false (bits x r)) (bits_power d r))

bits_zero_at : (r : ℕ) → bits 0 r ≡ false
bits_zero_at r = let s : ◌≡◌ {A = ℕ} (0 / 2 ^ r) 0 = small 0 (2 ^ r) (pow_pos r) in ap (λ x. eqb (x % 2) 1) s

pub bits_zero : bits 0 ≡ (λ r. false)
bits_zero = fun_ext bits_zero_at

power_le : (r : ℕ) → 16 ≤ r → 65536 ≤ 2 ^ r
power_le r h = ⊎_elim (λ (e : r ≡ 16). subst (λ x. 65536 ≤ 2 ^ x) (sym e) (omega arith)) (λ other. ⊎_elim (λ (l : r < 16). absurd (omega arith)) (λ (l : 16 < r). let x = pow_below 16 r l in omega arith) other) (cases_order r 16)

-- a number of 16 bits has no register from 16 on
pub bits_above : (x r : ℕ) → x < 65536 → 16 ≤ r → bits x r ≡ false
bits_above x r h g = let y = power_le r g in let s : ◌≡◌ {A = ℕ} (x / 2 ^ r) 0 = small x (2 ^ r) (omega arith) in ap (λ (n : ℕ). eqb (n % 2) 1) s
