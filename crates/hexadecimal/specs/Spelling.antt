-- Bytes as pairs of hexadecimal digits, the high one first.
use Rattle.std.specs.Prelude.{◌≡◌, ℕ, ◌+◌, ◌-◌, ◌*◌, ◌<◌, cond, ◌&&◌, List, length, Some, None, Option, nat_le, slice_index}

-- what the code of a character 0 to 9 or a to f stands for
abbrev pub digit_of : ℕ → Option ℕ
digit_of c = cond (nat_le 48 c && nat_le c 57) (Some (c - 48)) (cond (nat_le 97 c && nat_le c 102) (Some (c - 87)) None)

abbrev pub join_digits : Option ℕ → Option ℕ → Option ℕ
join_digits None low = None
join_digits (Some h) None = None
join_digits (Some h) (Some l) = Some (16 * h + l)

abbrev pub byte_of : ℕ → ℕ → Option ℕ
byte_of high low = join_digits (digit_of high) (digit_of low)

-- the text is the bytes, two digits for each
pub record Spells (text bytes : List ℕ) : Type 0 where
  pub long : length text ≡ 2 * length bytes
  pub each : (i : ℕ) → i < length bytes → byte_of (slice_index text (2 * i)) (slice_index text (2 * i + 1)) ≡ Some (slice_index bytes i)
