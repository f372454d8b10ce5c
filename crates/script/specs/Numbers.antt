-- Numbers in digits.
use Rattle.std.specs.Prelude.{ℕ, ◌^◌, Bool, cond, ◌&&◌, List, length, drop, Some, None, Option, ◌==◌, nat_lt, codes}
use Rattle.std.specs.Char.{is_digit}
use Rattle.std.specs.List.{list_all, starts_with}
use Rattle.std.specs.Str.Parse.{digits_value, without_leading_plus}

abbrev pub is_hexadecimal : List ℕ → Bool
is_hexadecimal text = starts_with (λ x y. x == y) text (codes "0x")

-- 16 behind 0x, and else 10
abbrev pub base_of : List ℕ → ℕ
base_of text = cond (is_hexadecimal text) 16 10

abbrev pub digits_in : List ℕ → List ℕ
digits_in text = cond (is_hexadecimal text) (drop 2 text) text

abbrev pub are_digits : ℕ → List ℕ → Bool
are_digits base = list_all (λ c. is_digit c base)

-- the number that these digits are, where there are any, and it has no more bits
abbrev pub value_of : ℕ → ℕ → List ℕ → Option ℕ
value_of bits base ds =
    cond (nat_lt 0 (length ds) && are_digits base ds && nat_lt (digits_value base ds) (2 ^ bits)) (Some (digits_value base ds)) None

-- a plus may stand in front of the digits
abbrev pub number_of : ℕ → List ℕ → Option ℕ
number_of bits text = value_of bits (base_of text) (without_leading_plus (digits_in text))
