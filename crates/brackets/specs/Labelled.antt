-- What is open around a place, with labels, innermost first.
use Rattle.std.specs.Prelude.{ℕ, List, [], ◌∷◌, Some, None, Option}
use Rattle.instructions.specs.declared.Instruction.{Instruction}
use Rattle.instructions.specs.declared.Instruction.TheVariants.{Do, If, Else, End, Repeat, Again}
use Rattle.program.specs.declared.opening.Opening.{Opening}
use Rattle.program.specs.declared.opening.Opening.TheVariants.{Then, Otherwise, Loop}
use Rattle.program.specs.declared.opening.Marked.{Marked}

-- an opening, with its label
abbrev pub mark : {L : Type 0} → Opening → L → Marked L
mark o l = record { opening = o; label = l }

-- an else at place p turns an if whose else has not come
abbrev pub marked_else : {L : Type 0} → Opening → L → ℕ → List (Marked L) → List (Marked L)
marked_else (Then q a) l p ks = mark (Otherwise q a p) l ∷ ks
marked_else (Otherwise q a m) l p ks = mark (Otherwise q a m) l ∷ ks
marked_else (Loop q) l p ks = mark (Loop q) l ∷ ks

-- an end closes an if
abbrev pub marked_end : {L : Type 0} → Opening → L → List (Marked L) → List (Marked L)
marked_end (Then q a) l ks = ks
marked_end (Otherwise q a m) l ks = ks
marked_end (Loop q) l ks = mark (Loop q) l ∷ ks

-- an again closes a repeat
abbrev pub marked_again : {L : Type 0} → Opening → L → List (Marked L) → List (Marked L)
marked_again (Then q a) l ks = mark (Then q a) l ∷ ks
marked_again (Otherwise q a m) l ks = mark (Otherwise q a m) l ∷ ks
marked_again (Loop q) l ks = ks

-- another opening in place of the innermost, with the same label
abbrev pub turned : {L : Type 0} → Opening → List (Marked L) → List (Marked L)
turned o [] = []
turned o (k ∷ ks) = mark o k.label ∷ ks

-- openings, without their labels
abbrev pub unmarked : {L : Type 0} → List (Marked L) → List Opening
unmarked [] = []
unmarked (k ∷ ks) = k.opening ∷ unmarked ks

-- what is open after the instruction at place p: what it opens has label l
abbrev pub marked_past : {L : Type 0} → L → ℕ → Instruction → List (Marked L) → List (Marked L)
marked_past l p (Do op) ks = ks
marked_past l p (If a) ks = mark (Then p a) l ∷ ks
marked_past l p Else [] = []
marked_past l p Else (k ∷ ks) = marked_else k.opening k.label p ks
marked_past l p End [] = []
marked_past l p End (k ∷ ks) = marked_end k.opening k.label ks
marked_past l p (Repeat a n) ks = mark (Loop p) l ∷ ks
marked_past l p Again [] = []
marked_past l p Again (k ∷ ks) = marked_again k.opening k.label ks

-- the opening, where an end closes it
abbrev pub closed_by_end : {L : Type 0} → Marked L → Opening → Option (Marked L)
closed_by_end k (Then q a) = Some k
closed_by_end k (Otherwise q a m) = Some k
closed_by_end k (Loop q) = None

-- the opening, where an again closes it
abbrev pub closed_by_again : {L : Type 0} → Marked L → Opening → Option (Marked L)
closed_by_again k (Then q a) = None
closed_by_again k (Otherwise q a m) = None
closed_by_again k (Loop q) = Some k

-- the opening that the instruction closes
abbrev pub closed : {L : Type 0} → Instruction → List (Marked L) → Option (Marked L)
closed (Do op) ks = None
closed (If a) ks = None
closed Else ks = None
closed End [] = None
closed End (k ∷ ks) = closed_by_end k k.opening
closed (Repeat a n) ks = None
closed Again [] = None
closed Again (k ∷ ks) = closed_by_again k k.opening
