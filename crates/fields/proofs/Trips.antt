-- Fields and instructions undo each other, and so do a word and its four bytes.
use Rattle.std.proofs.Common.{◌≡◌, ℕ, ◌+◌, ◌*◌, ◌/◌, ◌%◌, ◌^◌, ◌<◌, refl, mod-eq_of_lt, arith}
use lib.Arith.{digits_mod}
use Rattle.std.proofs.lemmas.Bool.Decides.{nat_tests}
use Rattle.std.proofs.lemmas.Nat.{shr-shr, shr_split, div_below}
use Rattle.instructions.specs.declared.BinaryOp.TheVariants.{Add, Sub, Mul, And, Or, Xor, Below, Same}
use Rattle.instructions.specs.declared.ShiftOp.TheVariants.{Left, Right, Rotate}
use Rattle.instructions.specs.declared.Value.TheVariants.{Const, Move, Binary, Shift}
use Rattle.instructions.specs.declared.Op.TheVariants.{Set, Pick, Load, Store}
use Rattle.instructions.specs.declared.Instruction.TheVariants.{Do, If, Else, End, Repeat, Again}
use Rattle.fields.specs.Codec.{DecodeEncode, EncodeDecode, SameBounds}

pub decode_encode : DecodeEncode
decode_encode (Do (Set d (Const k))) = refl
decode_encode (Do (Set d (Move a))) = refl
decode_encode (Do (Set d (Binary Add a b))) = refl
decode_encode (Do (Set d (Binary Sub a b))) = refl
decode_encode (Do (Set d (Binary Mul a b))) = refl
decode_encode (Do (Set d (Binary And a b))) = refl
decode_encode (Do (Set d (Binary Or a b))) = refl
decode_encode (Do (Set d (Binary Xor a b))) = refl
decode_encode (Do (Set d (Binary Below a b))) = refl
decode_encode (Do (Set d (Binary Same a b))) = refl
decode_encode (Do (Set d (Shift Left a k))) = refl
decode_encode (Do (Set d (Shift Right a k))) = refl
decode_encode (Do (Set d (Shift Rotate a k))) = refl
decode_encode (Do (Pick d a b)) = refl
decode_encode (Do (Load d a t)) = refl
decode_encode (Do (Store d a t)) = refl
decode_encode (If a) = refl
decode_encode Else = refl
decode_encode End = refl
decode_encode (Repeat a k) = refl
decode_encode Again = refl

pub encode_decode : EncodeDecode
encode_decode l f h = grind (arith, nat_tests)

pub same_bounds : SameBounds
same_bounds l i = grind (arith, nat_tests)

-- a word is the number of its four bytes
pub word_bytes : (k : ℕ) → k < 2 ^ 32 → k % 256 + k / 256 % 256 * 256 + k / 65536 % 256 * 65536 + k / 16777216 % 256 * 16777216 ≡ k
word_bytes k h =
    let e = shr-shr k 8 8 in
    let f = shr-shr k 16 8 in
    let a = shr_split k 8 in
    let b = shr_split (k / 256) 8 in
    let d = shr_split (k / 65536) 8 in
    let small : k / 16777216 < 256 = div_below k 16777216 256 (omega arith) (omega arith) in
    let last : k / 16777216 % 256 ≡ k / 16777216 = mod-eq_of_lt small in
    omega arith

-- the four bytes of the number of four bytes
pub bytes_word :
    (p q r s : ℕ) → p < 256 → q < 256 → r < 256 → s < 256
    → ((p + q * 256 + r * 65536 + s * 16777216) % 256 ≡ p)
    × ((p + q * 256 + r * 65536 + s * 16777216) / 256 % 256 ≡ q)
    × ((p + q * 256 + r * 65536 + s * 16777216) / 65536 % 256 ≡ r)
    × ((p + q * 256 + r * 65536 + s * 16777216) / 16777216 % 256 ≡ s)
bytes_word p q r s hp hq hr hs = (
  omega arith,
  omega (arith, digits_mod (q + r * 256 + s * 65536) {m = 256} {r = p} hp),
  omega arith,
  omega arith,
)
