-- Labels carried along nested blocks, from what arrives to what leaves: no branch and no round goes by a secret
-- register, and no op gives away what is secret.
use Rattle.std.specs.Prelude.{◌≡◌, ℕ, Bool, false, None}
use Rattle.program.specs.Blocks.{Block, done, one, if_then, if_else, loop}
use Rattle.labels.specs.Kinds.{secrecy}
use Rattle.labels.specs.Rules.{Sub, leaves}
use Rattle.conversion.specs.Refusing.{wrong_op}

-- which tables are secret, and which of them the memory hides
module _ {Note : Type 0} (secret hidden : ℕ → Bool) where
  -- where the registers of A are secret ones on arriving, those of B are on leaving. Both arms of an if leave within
  -- one set, and a repeat's body keeps a set within which its repeat arrives
  abbrev pub Carried : (ℕ → Bool) → Block Note → (ℕ → Bool) → Type 0
  Carried A done B = Sub secrecy A B
  Carried A (one op b) B = (wrong_op secret hidden A false op ≡ None) × Carried (leaves secrecy secret false op A) b B
  Carried A (if_then n a t b) B = (A a ≡ false) × ((C : ℕ → Bool) × Carried A t C × Sub secrecy A C × Carried C b B)
  Carried A (if_else n a t e b) B = (A a ≡ false) × ((C : ℕ → Bool) × Carried A t C × Carried A e C × Carried C b B)
  Carried A (loop a k t b) B = (A a ≡ false) × ((C : ℕ → Bool) × Sub secrecy A C × Carried C t C × Carried C b B)

-- what is secret may be less on arriving, and more on leaving
abbrev pub Weakens : Type 0 → Type 0
Weakens Note =
    (secret hidden : ℕ → Bool) (b : Block Note) (A A' B B' : ℕ → Bool)
    → Sub secrecy A' A → Sub secrecy B B' → Carried secret hidden A b B → Carried secret hidden A' b B'
