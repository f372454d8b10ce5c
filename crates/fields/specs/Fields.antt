-- Five fields in eight bytes: op, d, a, b and, low byte first, k.
use Rattle.std.specs.Prelude.{ℕ, ◌+◌, ◌*◌, ◌/◌, ◌%◌, List, [], ◌∷◌, slice_index}
use Rattle.fields.specs.declared.fields.Fields.{Fields}

abbrev pub fields : ℕ → ℕ → ℕ → ℕ → ℕ → Fields
fields op d a b k = record { op = op; d = d; a = a; b = b; k = k }

-- the number in the four bytes from i, low byte first
abbrev pub word_at : List ℕ → ℕ → ℕ
word_at bs i = slice_index bs i + slice_index bs (i + 1) * 256 + slice_index bs (i + 2) * 65536 + slice_index bs (i + 3) * 16777216

-- the fields of the instruction at a place
abbrev pub fields_at : List ℕ → ℕ → Fields
fields_at bs p = fields (slice_index bs (8 * p)) (slice_index bs (8 * p + 1)) (slice_index bs (8 * p + 2)) (slice_index bs (8 * p + 3)) (word_at bs (8 * p + 4))

abbrev pub bytes_of : Fields → List ℕ
bytes_of f =
    f.op ∷ f.d ∷ f.a ∷ f.b
    ∷ f.k % 256 ∷ f.k / 256 % 256 ∷ f.k / 65536 % 256 ∷ f.k / 16777216 % 256
    ∷ []
