-- One pass over the places, which raises labels where the rules ask for it.
use Rattle.std.specs.Prelude.{ℕ, zero, suc, cond, List, [], ◌∷◌, ◌==◌}
use Rattle.instructions.specs.declared.Instruction.{Instruction}
use Rattle.instructions.specs.declared.Instruction.TheVariants.{Do, If, Else, End, Repeat, Again}
use Rattle.program.specs.declared.opening.Marked.{Marked}
use Rattle.program.specs.Openings.{Before}
use Rattle.brackets.specs.Labelled.{marked_past}
use Rattle.labels.specs.Kinds.{LabelKind}
use Rattle.labels.specs.declared.way.Way.{Way}
use Rattle.labels.specs.Rules.{Sub, leaves, mask_of, ways, Solves}

-- the innermost opening lies before place p
abbrev pub Ahead : {L : Type 0} → ℕ → List (Marked L) → Type 0
Ahead p [] = Unit {0}
Ahead p (k ∷ ks) = Before p k.opening

module _ {L : Type 0} (K : LabelKind L) where
  -- the label of what an instruction opens, where A arrives at it: an if takes that of its condition
  abbrev pub labelled : (ℕ → L) → Instruction → L
  labelled A (Do op) = K.least
  labelled A (If a) = A a
  labelled A Else = K.least
  labelled A End = K.least
  labelled A (Repeat a k) = K.least
  labelled A Again = K.least

  -- what is open after the instruction at place p, where A arrives at it
  abbrev pub opens : (ℕ → L) → List (Marked L) → ℕ → Instruction → List (Marked L)
  opens A ks p i = marked_past (labelled A i) p i ks

  -- S, with A joined to the labels at place q
  abbrev pub raised : (ℕ → ℕ → L) → ℕ → (ℕ → L) → ℕ → ℕ → L
  raised S q A p r = cond (p == q) (K.join (S p r) (A r)) (S p r)

  -- S, after labels went along a way
  abbrev pub passed : Way → (ℕ → ℕ → L) → ℕ → ℕ → L
  passed w S = raised S w.to (S w.from)

  -- and along several, one after another
  abbrev pub along : List Way → (ℕ → ℕ → L) → ℕ → ℕ → L
  along [] S = S
  along (w ∷ ws) S = along ws (passed w S)

  -- S, raised as the instruction at place p asks, inside these openings
  abbrev pub flow : (ℕ → L) → List (Marked L) → ℕ → Instruction → (ℕ → ℕ → L) → ℕ → ℕ → L
  flow tables ks p (Do op) S = raised S (suc p) (leaves K tables (mask_of K ks) op (S p))
  flow tables ks p (If a) S = along (ways K ks p (If a)) S
  flow tables ks p Else S = along (ways K ks p Else) S
  flow tables ks p End S = along (ways K ks p End) S
  flow tables ks p (Repeat a k) S = along (ways K ks p (Repeat a k)) S
  flow tables ks p Again S = along (ways K ks p Again) S

  -- S, after a pass over instructions from place p on
  abbrev pub sweep : (ℕ → L) → List (Marked L) → ℕ → List Instruction → (ℕ → ℕ → L) → ℕ → ℕ → L
  sweep tables ks p [] S = S
  sweep tables ks p (i ∷ is) S = sweep tables (opens (S p) ks p i) (suc p) is (flow tables ks p i S)

  -- the entry labels at place 0, and the least elsewhere
  abbrev pub onset : (ℕ → L) → ℕ → ℕ → L
  onset entry zero = entry
  onset entry (suc p) = λ r. K.least

  -- S, after so many passes
  abbrev pub passes : (ℕ → L) → List Instruction → ℕ → (ℕ → ℕ → L) → ℕ → ℕ → L
  passes tables code zero S = S
  passes tables code (suc more) S = passes tables code more (sweep tables [] 0 code S)

  -- on the way up: the entry labels are there, and nothing that some solution lacks
  pub record Rising (tables entry : ℕ → L) (code : List Instruction) (S : ℕ → ℕ → L) : Type 0 where
    pub start : Sub K entry (S 0)
    pub below : (Z : ℕ → ℕ → L) → Solves K tables entry code Z → (p : ℕ) → Sub K (S p) (Z p)
