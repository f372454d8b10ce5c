-- What instructions compute, on words of 32 bits.
use Rattle.std.specs.Prelude.{ℕ, ◌+◌, ◌-◌, ◌*◌, ◌/◌, ◌%◌, ◌^◌, Bool, true, false, ◌==◌, bit_and, bit_or, bit_xor, nat_lt}
use Rattle.instructions.specs.declared.BinaryOp.{BinaryOp}
use Rattle.instructions.specs.declared.BinaryOp.TheVariants.{Add, Sub, Mul, And, Or, Xor, Below, Same}
use Rattle.instructions.specs.declared.ShiftOp.{ShiftOp}
use Rattle.instructions.specs.declared.ShiftOp.TheVariants.{Left, Right, Rotate}
use Rattle.instructions.specs.declared.Value.{Value}
use Rattle.instructions.specs.declared.Value.TheVariants.{Const, Move, Binary, Shift}

-- 1 for a test that passes, 0 for one that fails
abbrev pub bit : Bool → ℕ
bit true = 1
bit false = 0

-- what two words come to: modulo 2^32, by bits, or a test
abbrev pub calc : BinaryOp → ℕ → ℕ → ℕ
calc Add x y = (x + y) % 2 ^ 32
calc Sub x y = (x + (2 ^ 32 - y)) % 2 ^ 32
calc Mul x y = (x * y) % 2 ^ 32
calc And x y = bit_and x y
calc Or x y = bit_or x y
calc Xor x y = bit_xor x y
calc Below x y = bit (nat_lt x y)
calc Same x y = bit (x == y)

-- a word shifted by k bits; what a rotation pushes out comes in again on the other side
abbrev pub turned : ShiftOp → ℕ → ℕ → ℕ
turned Left x k = (x * 2 ^ k) % 2 ^ 32
turned Right x k = x / 2 ^ k
turned Rotate x k = bit_or ((x * 2 ^ (k % 32)) % 2 ^ 32) (x / 2 ^ ((32 - k % 32) % 32))

-- a value as the registers r give it
abbrev pub value_of : Value → (ℕ → ℕ) → ℕ
value_of (Const word) r = word
value_of (Move a) r = r a
value_of (Binary op a b) r = calc op (r a) (r b)
value_of (Shift op a k) r = turned op (r a) k
