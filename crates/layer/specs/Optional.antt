-- A layer, or none.
use Rattle.std.specs.Prelude.{◌≡◌, Some, None, Option, refl}
use Rattle.memory.specs.Description.{Description, cleared}

module _ {L : Type 0} (over : L → Description → Description) where
  abbrev pub optional : Option L → Description → Description
  optional None d = d
  optional (Some l) d = over l d

  -- what holds of every layer, and of no layer, holds of either
  pub optional_keeps : (P : Description → Description → Type 0) → ((d : Description) → P d d) → ((l : L) (d : Description) → P d (over l d)) → (o : Option L) (d : Description) → P d (optional o d)
  optional_keeps P none some None d = none d
  optional_keeps P none some (Some l) d = some l d

  pub optional_clears : ((l : L) (d : Description) → over l (cleared d) ≡ cleared (over l d)) → (o : Option L) (d : Description) → optional o (cleared d) ≡ cleared (optional o d)
  optional_clears clears None d = refl
  optional_clears clears (Some l) d = clears l d
