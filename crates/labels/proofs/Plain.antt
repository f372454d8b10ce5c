-- Public and secret make a kind of label.
use Rattle.std.proofs.Common.{◌≡◌, ℕ, ◌≤◌, Bool, true, false, ◌||◌, refl, arith}
use Rattle.labels.specs.Kinds.{Lawful, Rises, secrecy}

or_twice : (a : Bool) → (a || a) ≡ a
or_twice true = refl
or_twice false = refl

or_swapped : (a b : Bool) → (a || b) ≡ (b || a)
or_swapped true true = refl
or_swapped true false = refl
or_swapped false true = refl
or_swapped false false = refl

or_grouped : (a b c : Bool) → ((a || b) || c) ≡ (a || (b || c))
or_grouped true b c = refl
or_grouped false b c = refl

or_upward : (a b : Bool) → a ≡ true → (a || b) ≡ true
or_upward true b h = refl
or_upward false b h = cc

pub plain : Lawful secrecy
plain = record { lowest = λ a. refl; twice = or_twice; swapped = or_swapped; grouped = or_grouped; upward = or_upward }

abbrev height : Bool → ℕ
height true = 1
height false = 0

height_most : (a : Bool) → height a ≤ 1
height_most true = omega arith
height_most false = omega arith

height_up : (a b : Bool) → height a ≤ height (a || b)
height_up true b = omega arith
height_up false true = omega arith
height_up false false = omega arith

height_strict : (a b : Bool) → height a ≡ height (a || b) → (a || b) ≡ a
height_strict true b e = refl
height_strict false true e = absurd (omega arith)
height_strict false false e = refl

-- there is one rise, from public to secret
pub one_rise : Rises secrecy 1
one_rise = record { height = height; bounded = height_most; ordered = height_up; strict = height_strict }

-- with plain labels, what is secret in the one is so in the other
pub within_true : (a b : Bool) → (a || b) ≡ b → a ≡ true → b ≡ true
within_true true b h e = cc
within_true false b h e = cc
