-- Nested blocks with one way through: every if is secret, and nothing is repeated.
use Rattle.std.specs.Prelude.{◌≡◌, ℕ, Bool, true, []}
use Rattle.program.specs.Blocks.{Block, done, one, if_then, if_else, loop, flat}
use Rattle.conversion.specs.OneWay.{OneWay}
use Rattle.conversion.specs.Trees.{Noted, converted}

-- a block has one way through
abbrev pub OneWayBlock : Block Bool → Type 0
OneWayBlock done = Unit {0}
OneWayBlock (one op b) = OneWayBlock b
OneWayBlock (if_then secret a t b) = (secret ≡ true) × OneWayBlock t × OneWayBlock b
OneWayBlock (if_else secret a t e b) = (secret ≡ true) × OneWayBlock t × OneWayBlock e × OneWayBlock b
OneWayBlock (loop a k t b) = ⊥

-- a block is ops alone
abbrev pub OpsAlone : Block Bool → Type 0
OpsAlone done = Unit {0}
OpsAlone (one op b) = OpsAlone b
OpsAlone (if_then secret a t b) = ⊥
OpsAlone (if_else secret a t e b) = ⊥
OpsAlone (loop a k t b) = ⊥

-- code with one way through is such blocks, where its ifs are noted as secret
abbrev pub OneWayNested : Type 0
OneWayNested = (S : ℕ → ℕ → Bool) (b : Block Bool) (p : ℕ) → Noted S b p → OneWay S p (flat b []) → OneWayBlock b

-- and such blocks become ops alone
abbrev pub OneWayOps : Type 0
OneWayOps = (long : ℕ → ℕ) (b : Block Bool) (p : ℕ) → OneWayBlock b → OpsAlone (converted long 0 b p done)
