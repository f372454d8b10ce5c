-- The rules: which labels the registers have on arriving at each place. `S p r` is the label of
-- register r on arriving at place p; for plain labels, S p is the set of secret registers.
use Rattle.std.specs.Prelude.{◌≡◌, ℕ, suc, Bool, true, false, cond, List, [], ◌∷◌, drop, ◌==◌}
use Rattle.instructions.specs.declared.Value.{Value}
use Rattle.instructions.specs.declared.Value.TheVariants.{Const, Move, Binary, Shift}
use Rattle.instructions.specs.declared.Op.{Op}
use Rattle.instructions.specs.declared.Op.TheVariants.{Set, Pick, Load, Store}
use Rattle.instructions.specs.declared.Instruction.{Instruction}
use Rattle.instructions.specs.declared.Instruction.TheVariants.{Do, If, Else, End, Repeat, Again}
use Rattle.program.specs.declared.opening.Opening.{Opening}
use Rattle.program.specs.declared.opening.Opening.TheVariants.{Then, Otherwise, Loop}
use Rattle.program.specs.declared.opening.Marked.{Marked}
use Rattle.program.specs.Openings.{around}
use Rattle.brackets.specs.Labelled.{mark}
use Rattle.labels.specs.declared.way.Way.{Way}
use Rattle.labels.specs.Kinds.{LabelKind, Within}

abbrev pub way : ℕ → ℕ → Way
way p q = record { from = p; to = q }

-- something holds of each way
abbrev pub Each : (Way → Type 0) → List Way → Type 0
Each P [] = Unit {0}
Each P (w ∷ ws) = P w × Each P ws

-- the if's move to the place after its else at p and, where that if is secret, what leaves the else
abbrev pub else_ways : Opening → Bool → ℕ → List Way
else_ways (Then q a) true p = way q (suc p) ∷ way p (suc p) ∷ []
else_ways (Then q a) false p = way q (suc p) ∷ []
else_ways (Otherwise q a m) secret p = []
else_ways (Loop q) secret p = []

-- the move to the end at p, from its else or, without one, from its if; and the end's own move
abbrev pub end_ways : Opening → ℕ → List Way
end_ways (Then q a) p = way q p ∷ way p (suc p) ∷ []
end_ways (Otherwise q a m) p = way m p ∷ way p (suc p) ∷ []
end_ways (Loop q) p = []

-- both moves of the again at p, back to the place after its repeat and on; and the repeat's move past it
abbrev pub again_ways : Opening → ℕ → List Way
again_ways (Then q a) p = []
again_ways (Otherwise q a m) p = []
again_ways (Loop q) p = way p (suc q) ∷ way p (suc p) ∷ way q (suc p) ∷ []

module _ {L : Type 0} (K : LabelKind L) where
  -- every register's label in A is within that in B: for plain labels, A is a subset of B
  abbrev pub Sub : (ℕ → L) → (ℕ → L) → Type 0
  Sub A B = (r : ℕ) → Within K (A r) (B r)

  -- the labels that a value reads, joined
  abbrev pub read_by : Value → (ℕ → L) → L
  read_by (Const k) A = K.least
  read_by (Move a) A = A a
  read_by (Binary op a b) A = K.join (A a) (A b)
  read_by (Shift op a k) A = A a

  -- the label that a target gets: what was read and, at a masked place, also the mask and what the target had
  abbrev pub written : Bool → L → L → L → L
  written true mask held read = K.join mask (K.join held read)
  written false mask held read = read

  -- A, with register d labelled l
  abbrev pub put : (ℕ → L) → ℕ → L → ℕ → L
  put A d l r = cond (r == d) l (A r)

  -- what leaves an op at a place with this mask, where A arrives; the tables have labels
  abbrev pub leaves : (ℕ → L) → L → Op → (ℕ → L) → ℕ → L
  leaves tables mask (Set d v) A = put A d (written (K.secret mask) mask (A d) (read_by v A))
  leaves tables mask (Pick d a b) A = put A d (written (K.secret mask) mask (A d) (K.join (A d) (K.join (A a) (A b))))
  leaves tables mask (Load d a t) A = put A d (written (K.secret mask) mask (A d) (K.join (A a) (tables t)))
  leaves tables mask (Store a i t) A = A

  -- the label of an opening: that of an if's condition at the if's place
  abbrev pub label_of : (ℕ → ℕ → L) → Opening → L
  label_of S (Then q a) = S q a
  label_of S (Otherwise q a m) = S q a
  label_of S (Loop q) = K.least

  -- openings, each with its label
  abbrev pub marked : (ℕ → ℕ → L) → List Opening → List (Marked L)
  marked S [] = []
  marked S (o ∷ os) = mark o (label_of S o) ∷ marked S os

  -- the mask of a place inside these openings: their labels, joined; the place is masked where that is secret
  abbrev pub mask_of : List (Marked L) → L
  mask_of [] = K.least
  mask_of (k ∷ ks) = K.join k.label (mask_of ks)

  -- the moves of brackets, those between an opening and what closes it where it closes: what the bracket
  -- at place p settles, inside these openings
  abbrev pub ways : List (Marked L) → ℕ → Instruction → List Way
  ways ks p (Do op) = []
  ways ks p (If a) = way p (suc p) ∷ []
  ways [] p Else = []
  ways (k ∷ ks) p Else = else_ways k.opening (K.secret k.label) p
  ways [] p End = []
  ways (k ∷ ks) p End = end_ways k.opening p
  ways ks p (Repeat a k) = way p (suc p) ∷ []
  ways [] p Again = []
  ways (k ∷ ks) p Again = again_ways k.opening p

  -- what arrives at the one place is within what arrives at the other
  abbrev pub Along : (ℕ → ℕ → L) → Way → Type 0
  Along S w = Sub (S w.from) (S w.to)

  -- the rules that the instruction at place p asks of S, inside these openings
  abbrev pub Keeps : (ℕ → L) → (ℕ → ℕ → L) → List (Marked L) → ℕ → Instruction → Type 0
  Keeps tables S ks p (Do op) = Sub (leaves tables (mask_of ks) op (S p)) (S (suc p))
  Keeps tables S ks p (If a) = Each (Along S) (ways ks p (If a))
  Keeps tables S ks p Else = Each (Along S) (ways ks p Else)
  Keeps tables S ks p End = Each (Along S) (ways ks p End)
  Keeps tables S ks p (Repeat a k) = Each (Along S) (ways ks p (Repeat a k))
  Keeps tables S ks p Again = Each (Along S) (ways ks p Again)

  -- S holds the entry labels at place 0 and keeps the rules of every place
  pub record Solves (tables entry : ℕ → L) (code : List Instruction) (S : ℕ → ℕ → L) : Type 0 where
    pub start : Sub entry (S 0)
    pub rules : (p : ℕ) (i : Instruction) (is : List Instruction) → drop p code ≡ i ∷ is → Keeps tables S (marked S (around code p)) p i

  -- the smallest: a solution that lies within every solution
  pub record Smallest (tables entry : ℕ → L) (code : List Instruction) (S : ℕ → ℕ → L) : Type 0 where
    pub solves : Solves tables entry code S
    pub least : (Z : ℕ → ℕ → L) → Solves tables entry code Z → (p : ℕ) → Sub (S p) (Z p)
