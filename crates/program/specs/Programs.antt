-- The instructions of a program.
use Rattle.std.specs.Prelude.{List, take, vec_items}
use Rattle.instructions.specs.declared.Instruction.{Instruction}
use Rattle.program.specs.declared.program.Program.{Program}

-- the first entries of its list, as many as the header says
abbrev pub code_of : Program → List Instruction
code_of program = take program.header.count (vec_items program.list)
