-- Where each if, else and repeat jumps to, and what a pass from the end does.
use Rattle.std.specs.Prelude.{◌≡◌, ℕ, zero, suc, ◌+◌, false, cond, List, [], ◌∷◌, length, drop, nat_lt, slice_index, slice_set}
use Rattle.instructions.specs.declared.Instruction.{Instruction}
use Rattle.instructions.specs.declared.Instruction.TheVariants.{Do, If, Else, End, Repeat, Again}
use Rattle.stack.specs.Items.{below, swapped}
use Rattle.machine.specs.Machine.{closing, other}
use Rattle.jumps.specs.declared.Closer.{Closer}

-- j is where the instruction at place p jumps to, in front of these instructions: as the machine says
abbrev pub Jumps : List Instruction → ℕ → ℕ → Instruction → List Instruction → Type 0
Jumps code j p (Do op) is = Unit {0}
Jumps code j p (If a) is = j ≡ other code zero (suc p) is
Jumps code j p Else is = j ≡ closing false zero (suc p) is
Jumps code j p End is = Unit {0}
Jumps code j p (Repeat a k) is = j ≡ suc (closing false zero (suc p) is)
Jumps code j p Again is = Unit {0}

-- a list has each jump at its place
abbrev pub Resolved : List Instruction → List ℕ → Type 0
Resolved code js = (p : ℕ) (i : Instruction) (is : List Instruction) → drop p code ≡ i ∷ is → Jumps code (slice_index js p) p i is

-- where an if that fails, its else and a repeat without rounds go
abbrev pub closer : ℕ → ℕ → ℕ → Closer
closer o c a = record { other = o; close = c; after = a }

-- the closing bracket that was met last
abbrev pub innermost : List Closer → Closer
innermost [] = closer 0 0 0
innermost (c ∷ cs) = c

-- another closing bracket, where there is room
abbrev pub met : Closer → List Closer → List Closer
met c cs = cond (nat_lt (length cs) 8) (c ∷ cs) cs

-- what the pass does at the instruction at place p: to the closing brackets met, and to the jumps
abbrev pub Noted : Instruction → ℕ → List Closer → List ℕ → List Closer → List ℕ → Type 0
Noted (Do op) p cs js cs' js' = (cs' ≡ cs) × (js' ≡ js)
Noted (If a) p cs js cs' js' = (cs' ≡ below cs) × (js' ≡ slice_set js p (innermost cs).other)
Noted Else p cs js cs' js' = (cs' ≡ swapped (closer (p + 1) (innermost cs).close (innermost cs).after) cs) × (js' ≡ slice_set js p (innermost cs).close)
Noted End p cs js cs' js' = (cs' ≡ met (closer p p (p + 1)) cs) × (js' ≡ js)
Noted (Repeat a k) p cs js cs' js' = (cs' ≡ below cs) × (js' ≡ slice_set js p (innermost cs).after)
Noted Again p cs js cs' js' = (cs' ≡ met (closer p p (p + 1)) cs) × (js' ≡ js)
