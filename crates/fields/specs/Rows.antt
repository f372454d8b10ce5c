-- Which values the fields of an op may have.
use Rattle.std.specs.Prelude.{ℕ, ◌^◌, Bool, ◌&&◌, List, [], ◌∷◌, ◌==◌, nat_le, nat_lt, slice_index_or}
use Rattle.fields.specs.declared.fields.Fields.{Fields}
use Rattle.fields.specs.declared.rows.Bound.{Bound}
use Rattle.fields.specs.declared.rows.Bound.TheVariants.{Unused, Register, Table, Word, Shift, Rounds}
use Rattle.fields.specs.declared.rows.Row.{Row}
use Rattle.fields.specs.declared.rows.Limits.{Limits}

abbrev pub admits : Bound → Limits → ℕ → Bool
admits Unused l v = v == 0
admits Register l v = nat_lt v l.registers
admits Table l v = nat_lt v l.tables
admits Word l v = nat_lt v (2 ^ 32)
admits Shift l v = nat_lt v 32
admits Rounds l v = nat_le 1 v && nat_le v 1024

abbrev pub uses : Bound → Bound → Bound → Bound → Row
uses d a b k = record { d = d; a = a; b = b; k = k }

-- d, a, b and k of each op, from op 0
abbrev pub rows : List Row
rows =
    uses Register Unused Unused Word
    ∷ uses Register Register Unused Unused
    ∷ uses Register Register Register Unused
    ∷ uses Register Register Register Unused
    ∷ uses Register Register Register Unused
    ∷ uses Register Register Register Unused
    ∷ uses Register Register Register Unused
    ∷ uses Register Register Register Unused
    ∷ uses Register Register Unused Shift
    ∷ uses Register Register Unused Shift
    ∷ uses Register Register Unused Shift
    ∷ uses Register Register Register Unused
    ∷ uses Register Register Register Unused
    ∷ uses Register Register Register Unused
    ∷ uses Register Register Table Unused
    ∷ uses Register Register Table Unused
    ∷ uses Unused Register Unused Unused
    ∷ uses Unused Unused Unused Unused
    ∷ uses Unused Unused Unused Unused
    ∷ uses Unused Register Unused Rounds
    ∷ uses Unused Unused Unused Unused
    ∷ []

abbrev pub row_of : ℕ → Row
row_of op = slice_index_or rows op (uses Unused Unused Unused Unused)

-- there is such an op, and each field is within its bound
abbrev pub admitted : Limits → Fields → Bool
admitted l f =
    nat_lt f.op 21
    && (admits (row_of f.op).d l f.d
    && (admits (row_of f.op).a l f.a
    && (admits (row_of f.op).b l f.b
    && admits (row_of f.op).k l f.k)))
