-- The bounds of an instruction's parts, among so many registers and tables.
use Rattle.std.specs.Prelude.{ℕ, ◌^◌, Bool, true, ◌&&◌, nat_le, nat_lt}
use Rattle.instructions.specs.declared.Value.{Value}
use Rattle.instructions.specs.declared.Value.TheVariants.{Const, Move, Binary, Shift}
use Rattle.instructions.specs.declared.Op.{Op}
use Rattle.instructions.specs.declared.Op.TheVariants.{Set, Pick, Load, Store}
use Rattle.instructions.specs.declared.Instruction.{Instruction}
use Rattle.instructions.specs.declared.Instruction.TheVariants.{Do, If, Else, End, Repeat, Again}

module _ (registers tables : ℕ) where
  abbrev pub bound_value : Value → Bool
  bound_value (Const word) = nat_lt word (2 ^ 32)
  bound_value (Move a) = nat_lt a registers
  bound_value (Binary op a b) = nat_lt a registers && nat_lt b registers
  bound_value (Shift op a k) = nat_lt a registers && nat_lt k 32

  abbrev pub bound_op : Op → Bool
  bound_op (Set d v) = nat_lt d registers && bound_value v
  bound_op (Pick d a b) = nat_lt d registers && (nat_lt a registers && nat_lt b registers)
  bound_op (Load d a t) = nat_lt d registers && (nat_lt a registers && nat_lt t tables)
  bound_op (Store d a t) = nat_lt d registers && (nat_lt a registers && nat_lt t tables)

  abbrev pub bound : Instruction → Bool
  bound (Do op) = bound_op op
  bound (If a) = nat_lt a registers
  bound Else = true
  bound End = true
  bound (Repeat a k) = nat_lt a registers && (nat_le 1 k && nat_le k 1024)
  bound Again = true
