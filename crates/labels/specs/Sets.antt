-- Sets of registers as numbers of 16 bits.
use Rattle.std.specs.Prelude.{◌≡◌, ℕ, ◌+◌, ◌-◌, ◌/◌, ◌%◌, ◌^◌, ◌<◌, Bool, true, false, ◌||◌, List, [], ◌∷◌, ◌==◌, slice_index, slice_index_or}
use Rattle.program.specs.declared.header.Table.{Table}
use Rattle.program.specs.Headers.{no_table}

-- the set that a number stands for: bit i for register i
abbrev pub bits : ℕ → ℕ → Bool
bits x r = x / 2 ^ r % 2 == 1

-- the set at each place, from a number for each place
abbrev pub sets : List ℕ → ℕ → ℕ → Bool
sets l p = bits (slice_index l p)

-- the registers that are in one of two sets
abbrev pub either : (ℕ → Bool) → (ℕ → Bool) → ℕ → Bool
either A B r = A r || B r

-- the tables that are secret
abbrev pub secret_tables : List Table → ℕ → Bool
secret_tables tables t = (slice_index_or tables t no_table).secret

-- how far the numbers of a list are from having all bits
abbrev pub room : List ℕ → ℕ
room [] = 0
room (x ∷ xs) = (65535 - x) + room xs

-- whether a list changed: if not it is as it was, and if so there is less room
pub record Grew (changed : Bool) (before after : List ℕ) : Type 0 where
  pub same : changed ≡ false → after ≡ before
  pub less : changed ≡ true → room after < room before
