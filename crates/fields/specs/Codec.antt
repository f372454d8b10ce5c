-- The instruction of five fields, and the fields of an instruction.
use Rattle.std.specs.Prelude.{◌≡◌, ℕ, true, [], ◌∷◌, slice_index_or}
use Rattle.instructions.specs.declared.BinaryOp.{BinaryOp}
use Rattle.instructions.specs.declared.BinaryOp.TheVariants.{Add, Sub, Mul, And, Or, Xor, Below, Same}
use Rattle.instructions.specs.declared.ShiftOp.{ShiftOp}
use Rattle.instructions.specs.declared.ShiftOp.TheVariants.{Left, Right, Rotate}
use Rattle.instructions.specs.declared.Value.{Value}
use Rattle.instructions.specs.declared.Value.TheVariants.{Const, Move, Binary, Shift}
use Rattle.instructions.specs.declared.Op.{Op}
use Rattle.instructions.specs.declared.Op.TheVariants.{Set, Pick, Load, Store}
use Rattle.instructions.specs.declared.Instruction.{Instruction}
use Rattle.instructions.specs.declared.Instruction.TheVariants.{Do, If, Else, End, Repeat, Again}
use Rattle.program.specs.Bounds.{bound}
use Rattle.fields.specs.declared.fields.Fields.{Fields}
use Rattle.fields.specs.declared.rows.Limits.{Limits}
use Rattle.fields.specs.Fields.{fields}
use Rattle.fields.specs.Rows.{admitted}

-- the instruction of each op, from op 0
abbrev pub decode : Fields → Instruction
decode f =
    slice_index_or
    (Do (Set f.d (Const f.k))
    ∷ Do (Set f.d (Move f.a))
    ∷ Do (Set f.d (Binary Add f.a f.b))
    ∷ Do (Set f.d (Binary Sub f.a f.b))
    ∷ Do (Set f.d (Binary Mul f.a f.b))
    ∷ Do (Set f.d (Binary And f.a f.b))
    ∷ Do (Set f.d (Binary Or f.a f.b))
    ∷ Do (Set f.d (Binary Xor f.a f.b))
    ∷ Do (Set f.d (Shift Left f.a f.k))
    ∷ Do (Set f.d (Shift Right f.a f.k))
    ∷ Do (Set f.d (Shift Rotate f.a f.k))
    ∷ Do (Set f.d (Binary Below f.a f.b))
    ∷ Do (Set f.d (Binary Same f.a f.b))
    ∷ Do (Pick f.d f.a f.b)
    ∷ Do (Load f.d f.a f.b)
    ∷ Do (Store f.d f.a f.b)
    ∷ If f.a
    ∷ Else
    ∷ End
    ∷ Repeat f.a f.k
    ∷ Again
    ∷ [])
    f.op
    Again

abbrev pub binary_code : BinaryOp → ℕ
binary_code Add = 2
binary_code Sub = 3
binary_code Mul = 4
binary_code And = 5
binary_code Or = 6
binary_code Xor = 7
binary_code Below = 11
binary_code Same = 12

abbrev pub shift_code : ShiftOp → ℕ
shift_code Left = 8
shift_code Right = 9
shift_code Rotate = 10

abbrev pub encode_set : ℕ → Value → Fields
encode_set d (Const word) = fields 0 d 0 0 word
encode_set d (Move a) = fields 1 d a 0 0
encode_set d (Binary op a b) = fields (binary_code op) d a b 0
encode_set d (Shift op a k) = fields (shift_code op) d a 0 k

abbrev pub encode_op : Op → Fields
encode_op (Set d v) = encode_set d v
encode_op (Pick d a b) = fields 13 d a b 0
encode_op (Load d a t) = fields 14 d a t 0
encode_op (Store d a t) = fields 15 d a t 0

abbrev pub encode : Instruction → Fields
encode (Do op) = encode_op op
encode (If a) = fields 16 0 a 0 0
encode Else = fields 17 0 0 0 0
encode End = fields 18 0 0 0 0
encode (Repeat a k) = fields 19 0 a 0 k
encode Again = fields 20 0 0 0 0

-- an instruction is that of its fields
abbrev pub DecodeEncode : Type 0
DecodeEncode = (i : Instruction) → decode (encode i) ≡ i

-- fields that are admitted are those of their instruction
abbrev pub EncodeDecode : Type 0
EncodeDecode = (l : Limits) (f : Fields) → admitted l f ≡ true → encode (decode f) ≡ f

-- the fields of an instruction are admitted exactly where its parts are within their bounds
abbrev pub SameBounds : Type 0
SameBounds = (l : Limits) (i : Instruction) → admitted l (encode i) ≡ bound l.registers l.tables i
