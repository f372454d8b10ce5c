-- Instructions and tables as text.
use Rattle.std.specs.Prelude.{ℕ, Bool, true, false, List, [], ◌++◌, codes, decimal}
use Rattle.instructions.specs.declared.Instruction.{Instruction}
use Rattle.program.specs.declared.header.Header.{Header}
use Rattle.program.specs.declared.header.Table.{Table}
use Rattle.program.specs.Headers.{kind_name, cells_of}
use Rattle.fields.specs.declared.rows.Bound.{Bound}
use Rattle.fields.specs.declared.rows.Bound.TheVariants.{Unused, Register, Table as TableNumber, Word, Shift, Rounds}
use Rattle.fields.specs.Rows.{row_of}
use Rattle.fields.specs.Codec.{encode}
use Rattle.outline.specs.Names.{name_of}

-- a field, behind a space
abbrev pub operand_text : Bound → ℕ → List ℕ
operand_text Unused v = []
operand_text Register v = codes " r" ++ decimal v
operand_text TableNumber v = codes " t" ++ decimal v
operand_text Word v = codes " " ++ decimal v
operand_text Shift v = codes " " ++ decimal v
operand_text Rounds v = codes " " ++ decimal v

-- the op's name and its fields, in the order of the layout
abbrev pub wording : Instruction → List ℕ
wording i =
    name_of i
    ++ (operand_text (row_of (encode i).op).d (encode i).d
    ++ (operand_text (row_of (encode i).op).a (encode i).a
    ++ (operand_text (row_of (encode i).op).b (encode i).b
    ++ operand_text (row_of (encode i).op).k (encode i).k)))

-- the kind of a program, and how many instructions, tables and cells it has
abbrev pub sizes_text : Header → List ℕ
sizes_text h =
    kind_name h.kind
    ++ (codes ": instructions " ++ (decimal h.count ++ (codes ", tables " ++ (decimal h.used ++ (codes ", cells " ++ decimal (cells_of h.tables))))))

abbrev pub label_text : Bool → List ℕ
label_text true = codes "secret"
label_text false = codes "public"

-- a table by its number, with its first cell
abbrev pub table_text : ℕ → ℕ → Table → List ℕ
table_text number first t = codes "table t" ++ (decimal number ++ (codes ": first cell " ++ (decimal first ++ (codes ", length " ++ (decimal t.length ++ (codes ", " ++ label_text t.secret))))))

-- an instruction of a result, by its place there
abbrev pub part_line_text : ℕ → Instruction → List ℕ
part_line_text place i = codes "      " ++ (decimal place ++ (codes ": " ++ wording i))

abbrev pub sameness_text : Bool → List ℕ
sameness_text true = codes "the same"
sameness_text false = codes "not the same"

-- how many bytes were written, and whether they are those that were read
abbrev pub written_back_text : ℕ → Bool → List ℕ
written_back_text long same = codes "written back: " ++ (decimal long ++ (codes " bytes, " ++ sameness_text same))
