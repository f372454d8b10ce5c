-- What ops are called.
use Rattle.std.specs.Prelude.{ℕ, List, codes}
use Rattle.instructions.specs.declared.BinaryOp.{BinaryOp}
use Rattle.instructions.specs.declared.BinaryOp.TheVariants.{Add, Sub, Mul, And, Or, Xor, Below, Same}
use Rattle.instructions.specs.declared.ShiftOp.{ShiftOp}
use Rattle.instructions.specs.declared.ShiftOp.TheVariants.{Left, Right, Rotate}
use Rattle.instructions.specs.declared.Value.{Value}
use Rattle.instructions.specs.declared.Value.TheVariants.{Const, Move, Binary, Shift}
use Rattle.instructions.specs.declared.Op.{Op}
use Rattle.instructions.specs.declared.Op.TheVariants.{Set, Pick, Load, Store}
use Rattle.instructions.specs.declared.Instruction.{Instruction}
use Rattle.instructions.specs.declared.Instruction.TheVariants.{Do, If, Else, End, Repeat, Again}

abbrev pub binary_name : BinaryOp → List ℕ
binary_name Add = codes "add"
binary_name Sub = codes "sub"
binary_name Mul = codes "mul"
binary_name And = codes "and"
binary_name Or = codes "or"
binary_name Xor = codes "xor"
binary_name Below = codes "below"
binary_name Same = codes "same"

abbrev pub shift_name : ShiftOp → List ℕ
shift_name Left = codes "shl"
shift_name Right = codes "shr"
shift_name Rotate = codes "rotl"

abbrev pub value_name : Value → List ℕ
value_name (Const word) = codes "const"
value_name (Move a) = codes "move"
value_name (Binary op a b) = binary_name op
value_name (Shift op a k) = shift_name op

abbrev pub op_name : Op → List ℕ
op_name (Set d v) = value_name v
op_name (Pick d a b) = codes "pick"
op_name (Load d a t) = codes "load"
op_name (Store d a t) = codes "store"

abbrev pub name_of : Instruction → List ℕ
name_of (Do op) = op_name op
name_of (If a) = codes "if"
name_of Else = codes "else"
name_of End = codes "end"
name_of (Repeat a k) = codes "repeat"
name_of Again = codes "again"
