-- The bounds of an instruction's parts as facts: registers below r, tables below t.
use Rattle.std.specs.Prelude.{ℕ, ◌<◌, ◌≤◌}
use Rattle.instructions.specs.declared.Value.{Value}
use Rattle.instructions.specs.declared.Value.TheVariants.{Const, Move, Binary, Shift}
use Rattle.instructions.specs.declared.Op.{Op}
use Rattle.instructions.specs.declared.Op.TheVariants.{Set, Pick, Load, Store}
use Rattle.instructions.specs.declared.Instruction.{Instruction}
use Rattle.instructions.specs.declared.Instruction.TheVariants.{Do, If, Else, End, Repeat, Again}

-- of a value; a shift goes by less than 32
abbrev pub FitValue : ℕ → Value → Type 0
FitValue r (Const word) = Unit {0}
FitValue r (Move a) = a < r
FitValue r (Binary op a b) = (a < r) × (b < r)
FitValue r (Shift op a k) = (a < r) × (k < 32)

-- of an op
abbrev pub FitOp : ℕ → ℕ → Op → Type 0
FitOp r t (Set d v) = (d < r) × FitValue r v
FitOp r t (Pick d a b) = (d < r) × (a < r) × (b < r)
FitOp r t (Load d a b) = (d < r) × (a < r) × (b < t)
FitOp r t (Store d a b) = (d < r) × (a < r) × (b < t)

-- of an instruction; a repeat goes round at most 1,024 times
abbrev pub Fit : ℕ → ℕ → Instruction → Type 0
Fit r t (Do op) = FitOp r t op
Fit r t (If a) = a < r
Fit r t Else = Unit {0}
Fit r t End = Unit {0}
Fit r t (Repeat a k) = (a < r) × (k ≤ 1024)
Fit r t Again = Unit {0}
