-- What is seated, by the program that a bench has.
use Rattle.std.specs.Prelude.{Some, None, Option}
use Rattle.program.specs.declared.program.Program.{Program}
use Rattle.program.specs.Programs.{code_of}
use Rattle.calls.specs.Benches.{Seated, seat}

abbrev pub program_seated : Program → Seated
program_seated p = seat p.header (code_of p)

abbrev pub seated : Option Program → Option Seated
seated None = None
seated (Some p) = Some (program_seated p)
