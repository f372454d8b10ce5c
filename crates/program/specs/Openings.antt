-- What is open around each place, innermost first.
use Rattle.std.specs.Prelude.{ℕ, zero, suc, ◌<◌, Bool, true, false, List, [], ◌∷◌}
use Rattle.program.specs.declared.opening.Opening.{Opening}
use Rattle.program.specs.declared.opening.Opening.TheVariants.{Then, Otherwise, Loop}
use Rattle.instructions.specs.declared.Instruction.{Instruction}
use Rattle.instructions.specs.declared.Instruction.TheVariants.{Do, If, Else, End, Repeat, Again}

-- the innermost opening is an if whose else has not come
abbrev pub in_then : List Opening → Bool
in_then [] = false
in_then (Then q a ∷ os) = true
in_then (Otherwise q a m ∷ os) = false
in_then (Loop q ∷ os) = false

-- the innermost opening is an if
abbrev pub in_if : List Opening → Bool
in_if [] = false
in_if (Then q a ∷ os) = true
in_if (Otherwise q a m ∷ os) = true
in_if (Loop q ∷ os) = false

-- the innermost opening is a repeat
abbrev pub in_loop : List Opening → Bool
in_loop [] = false
in_loop (Then q a ∷ os) = false
in_loop (Otherwise q a m ∷ os) = false
in_loop (Loop q ∷ os) = true

-- an else at place p turns an if whose else has not come
abbrev pub elsed : ℕ → List Opening → List Opening
elsed p [] = []
elsed p (Then q a ∷ os) = Otherwise q a p ∷ os
elsed p (Otherwise q a m ∷ os) = Otherwise q a m ∷ os
elsed p (Loop q ∷ os) = Loop q ∷ os

-- an end closes an if
abbrev pub ended : List Opening → List Opening
ended [] = []
ended (Then q a ∷ os) = os
ended (Otherwise q a m ∷ os) = os
ended (Loop q ∷ os) = Loop q ∷ os

-- an again closes a repeat
abbrev pub againd : List Opening → List Opening
againd [] = []
againd (Then q a ∷ os) = Then q a ∷ os
againd (Otherwise q a m ∷ os) = Otherwise q a m ∷ os
againd (Loop q ∷ os) = os

-- what is open after the instruction at place p
abbrev pub past : ℕ → Instruction → List Opening → List Opening
past p (Do op) os = os
past p (If a) os = Then p a ∷ os
past p Else os = elsed p os
past p End os = ended os
past p (Repeat a k) os = Loop p ∷ os
past p Again os = againd os

-- the place of the bracket that opened it
abbrev pub opened_at : Opening → ℕ
opened_at (Then q a) = q
opened_at (Otherwise q a m) = q
opened_at (Loop q) = q

-- what is open n places after place p, where these are open at it
abbrev pub open_after : List Opening → ℕ → List Instruction → ℕ → List Opening
open_after os p is zero = os
open_after os p [] (suc n) = os
open_after os p (i ∷ is) (suc n) = open_after (past p i os) (suc p) is n

-- the openings around place p, innermost first
unfoldable pub around : List Instruction → ℕ → List Opening
around code p = open_after [] 0 code p

-- an opening that lies before place p
abbrev pub Before : ℕ → Opening → Type 0
Before p (Then q a) = q < p
Before p (Otherwise q a m) = (q < p) × (m < p)
Before p (Loop q) = q < p
