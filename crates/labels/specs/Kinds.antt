-- What may serve as a label, and the plain kind: public or secret.
use Rattle.std.specs.Prelude.{◌≡◌, ℕ, ◌≤◌, Bool, true, false, ◌||◌}

pub record LabelKind (L : Type 0) : Type 0 where
  -- the label of what everyone may see
  pub least : L
  -- the label of what was made from two
  pub join : L → L → L
  -- an if whose condition has this label is a secret one
  pub secret : L → Bool

-- the first label hides no more than the second: joined to it, it adds nothing
abbrev pub Within : {L : Type 0} → LabelKind L → L → L → Type 0
Within K a b = K.join a b ≡ b

-- joining has neither order nor repeats, the least label adds nothing, and above a secret label all are secret
pub record Lawful {L : Type 0} (K : LabelKind L) : Type 0 where
  pub lowest : (a : L) → K.join K.least a ≡ a
  pub twice : (a : L) → K.join a a ≡ a
  pub swapped : (a b : L) → K.join a b ≡ K.join b a
  pub grouped : (a b c : L) → K.join (K.join a b) c ≡ K.join a (K.join b c)
  pub upward : (a b : L) → K.secret a ≡ true → K.secret (K.join a b) ≡ true

-- a register is in the set of secret ones, or it is not
abbrev pub secrecy : LabelKind Bool
secrecy = record { least = false; join = λ a b. a || b; secret = λ a. a }

-- at most so many rises above the least label: each label has a height, and what is joined to it and changes it
-- makes it higher
pub record Rises {L : Type 0} (K : LabelKind L) (most : ℕ) : Type 0 where
  pub height : L → ℕ
  pub bounded : (a : L) → height a ≤ most
  pub ordered : (a b : L) → height a ≤ height (K.join a b)
  pub strict : (a b : L) → height a ≡ height (K.join a b) → K.join a b ≡ a
