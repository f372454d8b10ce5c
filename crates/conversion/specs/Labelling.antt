-- A program as nested blocks, under labels: the rules that they keep and what conversion asks, block by block.
use Rattle.std.specs.Prelude.{◌≡◌, ℕ, zero, suc, Bool, true, false, [], None}
use Rattle.program.specs.Blocks.{Block, done, one, if_then, if_else, loop, flat, fin}
use Rattle.labels.specs.Kinds.{secrecy}
use Rattle.labels.specs.Rules.{Sub, leaves, Solves}
use Rattle.masks.specs.Counts.{more}
use Rattle.conversion.specs.Refusing.{wrong_op, first_wrong}
use Rattle.conversion.specs.Trees.{Noted}

-- whether a place with s secret ifs around it is masked
abbrev pub masked_by : ℕ → Bool
masked_by zero = false
masked_by (suc n) = true

-- which tables are secret, which of them the memory hides, and the secret registers of each place
module _ (secret hidden : ℕ → Bool) (S : ℕ → ℕ → Bool) where
  -- what is secret at place p is secret at place q
  abbrev pub Leads : ℕ → ℕ → Type 0
  Leads p q = Sub secrecy (S p) (S q)

  -- the block at place p, with s secret ifs around it: no access is refused, no repeat is by a secret register, and
  -- the labels go along every move
  abbrev pub Labelled : ℕ → Block Bool → ℕ → Type 0
  Labelled s done p = Unit {0}
  Labelled s (one op b) p =
      (wrong_op secret hidden (S p) (masked_by s) op ≡ None) × Sub secrecy (leaves secrecy secret (masked_by s) op (S p)) (S (suc p)) × Labelled s b (suc p)
  Labelled s (if_then n a t b) p =
      let q = fin t (suc p) in
      (S p a ≡ n) × Leads p (suc p) × Leads p q × Labelled (more n s) t (suc p) × Leads q (suc q) × Labelled s b (suc q)
  Labelled s (if_else n a t e b) p =
      let q = fin t (suc p) in
      let r = fin e (suc q) in
      (S p a ≡ n) × Leads p (suc p) × Leads p (suc q) × (n ≡ true → Leads q (suc q)) × Leads q r
      × Labelled (more n s) t (suc p) × Labelled (more n s) e (suc q) × Leads r (suc r) × Labelled s b (suc r)
  Labelled s (loop a k t b) p =
      let q = fin t (suc p) in
      (S p a ≡ false) × Leads p (suc p) × Leads p (suc q) × Leads q (suc p) × Leads q (suc q) × Labelled s t (suc p) × Labelled s b (suc q)

-- where labels keep the rules and no place is refused, they do so block by block
abbrev pub Labellings : Type 0
Labellings =
    (secret hidden entry : ℕ → Bool) (S : ℕ → ℕ → Bool) (b : Block Bool) → Noted S b 0
    → Solves secrecy secret entry (flat b []) S → first_wrong secret hidden S [] 0 (flat b []) ≡ None → Labelled secret hidden S 0 b 0
