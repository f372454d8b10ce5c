-- An image: a header of 64 bytes, and eight bytes for each instruction.
use Rattle.std.specs.Prelude.{ℕ, ◌+◌, ◌*◌, Bool, List, [], ◌++◌, map, drop, Option, nat_le}
use Rattle.std.specs.List.{range_with_len, flat_map}
use Rattle.instructions.specs.declared.Instruction.{Instruction}
use Rattle.program.specs.declared.header.Header.{Header}
use Rattle.program.specs.declared.refusal.Refusal.{Refusal}
use Rattle.program.specs.declared.refusal.Reason.TheVariants.{BadField, NoRoomForCode}
use Rattle.program.specs.Refusals.{unless, or_else}
use Rattle.program.specs.Headers.{registers_of}
use Rattle.program.specs.Firsts.{first_failing}
use Rattle.program.specs.Pairing.{pairing}
use Rattle.fields.specs.declared.rows.Limits.{Limits}
use Rattle.fields.specs.Fields.{fields_at, bytes_of}
use Rattle.fields.specs.Rows.{admitted}
use Rattle.fields.specs.Codec.{decode, encode}
use Rattle.header.specs.Layout.{header_at, header_bytes, header_refusal}

abbrev pub limits_of : Header → Limits
limits_of h = record { registers = registers_of h.kind; tables = h.used }

-- the instruction in eight bytes
abbrev pub instruction_of : List ℕ → Instruction
instruction_of bytes = decode (fields_at bytes 0)

-- the instruction at a place of the body, which is what follows the header
abbrev pub instruction_at : List ℕ → ℕ → Instruction
instruction_at body p = decode (fields_at body p)

-- the first n instructions of the body
abbrev pub instructions : List ℕ → ℕ → List Instruction
instructions body n = map (instruction_at body) (range_with_len 0 n)

-- the instructions of an image
abbrev pub code_at : List ℕ → List Instruction
code_at bs = instructions (drop 64 bs) (header_at bs).count

abbrev pub fields_good : Header → List ℕ → ℕ → Bool
fields_good h body p = admitted (limits_of h) (fields_at body p)

-- the first place with a bad field
abbrev pub fields_refusal : Header → List ℕ → Option Refusal
fields_refusal h body = first_failing BadField (fields_good h body) 0 h.count

-- what is refused of an image, whatever the list: the header, then the fields, then the brackets
abbrev pub image_refusal : List ℕ → Option Refusal
image_refusal bs = or_else (header_refusal bs) (or_else (fields_refusal (header_at bs) (drop 64 bs)) (pairing [] 0 (code_at bs)))

-- what reading refuses, into an instruction list of that length
abbrev pub read_refusal : List ℕ → ℕ → Option Refusal
read_refusal bs room = or_else (image_refusal bs) (unless (nat_le (header_at bs).count room) NoRoomForCode (header_at bs).count)

abbrev pub instruction_bytes : Instruction → List ℕ
instruction_bytes i = bytes_of (encode i)

abbrev pub code_bytes : List Instruction → List ℕ
code_bytes code = flat_map instruction_bytes code

-- the image that a program is written as
abbrev pub image_of : Header → List Instruction → List ℕ
image_of h code = header_bytes h ++ code_bytes code

-- its length
abbrev pub image_length : Header → ℕ
image_length h = 64 + 8 * h.count
