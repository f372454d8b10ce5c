-- What a header says of registers, instructions and tables.
use Rattle.std.specs.Prelude.{◌≡◌, ℕ, ◌<◌, ◌≤◌, Bool, true, false, cond, not, ◌&&◌, List, codes, take, sum_by, ◌==◌, nat_le, Result, MatchResult}
use Rattle.program.specs.declared.header.Kind.{Kind}
use Rattle.program.specs.declared.header.Kind.TheVariants.{Source, Converted}
use Rattle.program.specs.declared.header.UnknownKind.{UnknownKind}
use Rattle.program.specs.declared.header.Table.{Table}

-- the kind of a number in an image
abbrev pub kind_of : ℕ → Kind
kind_of code = cond (code == 0) Source Converted

-- the number of a kind in an image
abbrev pub kind_code : Kind → ℕ
kind_code Source = 0
kind_code Converted = 1

-- the kind of a number up to 1, and the number itself where it is greater
abbrev pub NamesKind : ℕ → Result Kind UnknownKind → Type 0
NamesKind code r = MatchResult r (λ kind. (kind ≡ kind_of code) × (code ≤ 1)) (λ e. (e.0 ≡ code) × (1 < code))

abbrev pub kind_name : Kind → List ℕ
kind_name Source = codes "source"
kind_name Converted = codes "converted"

-- how many registers there are
abbrev pub registers_of : Kind → ℕ
registers_of Source = 16
registers_of Converted = 32

abbrev pub is_source : Kind → Bool
is_source Source = true
is_source Converted = false

-- the most instructions that a program may have
abbrev pub longest : Kind → ℕ
longest Source = 200
longest Converted = 3000

-- an entry that is not used
abbrev pub no_table : Table
no_table = record { length = 0; secret = false }

-- a table that is used has 1 to 1,024 cells; an entry that is not used is empty
abbrev pub table_fits : Table → Bool → Bool
table_fits t true = nat_le 1 t.length && nat_le t.length 1024
table_fits t false = t.length == 0 && not t.secret

-- the cells of all tables together
abbrev pub cells_of : List Table → ℕ
cells_of ts = sum_by (λ t. t.length) ts

-- the first cell of table i: the tables before it lie in front of it
abbrev pub first_cell : List Table → ℕ → ℕ
first_cell ts i = cells_of (take i ts)
