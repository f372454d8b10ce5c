-- How brackets pair, at most eight openings open together.
use Rattle.std.specs.Prelude.{ℕ, suc, List, [], ◌∷◌, length, Some, None, Option, nat_lt}
use Rattle.program.specs.declared.refusal.Refusal.{Refusal}
use Rattle.program.specs.declared.refusal.Reason.TheVariants.{BadBracket, TooDeep}
use Rattle.program.specs.declared.opening.Opening.{Opening}
use Rattle.instructions.specs.declared.Instruction.{Instruction}
use Rattle.instructions.specs.declared.Instruction.TheVariants.{Do, If, Else, End, Repeat, Again}
use Rattle.program.specs.Refusals.{refusal, unless, or_else}
use Rattle.program.specs.Openings.{in_then, in_if, in_loop, past, opened_at}

-- what is wrong with the instruction at place p, inside these openings
abbrev pub wrong : List Opening → ℕ → Instruction → Option Refusal
wrong os p (Do op) = None
wrong os p (If a) = unless (nat_lt (length os) 8) TooDeep p
wrong os p Else = unless (in_then os) BadBracket p
wrong os p End = unless (in_if os) BadBracket p
wrong os p (Repeat a k) = unless (nat_lt (length os) 8) TooDeep p
wrong os p Again = unless (in_loop os) BadBracket p

-- what is wrong where the instructions end: the innermost opening is left open
abbrev pub left_open : List Opening → Option Refusal
left_open [] = None
left_open (o ∷ os) = Some (refusal BadBracket (opened_at o))

-- what is wrong with a row of instructions from place p, inside these openings: the first place
abbrev pub pairing : List Opening → ℕ → List Instruction → Option Refusal
pairing os p [] = left_open os
pairing os p (i ∷ is) = or_else (wrong os p i) (pairing (past p i os) (suc p) is)
