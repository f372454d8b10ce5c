-- The instructions of a program can be counted.
use Rattle.std.proofs.Common.{◌<◌, get_or, vec_items, sym, subst, arith}
use Rattle.std.proofs.lemmas.List.{get_or-take}
use Rattle.instructions.specs.declared.Instruction.TheVariants.{Again}
use Rattle.program.specs.declared.program.Program.{Program}
use Rattle.program.specs.Headers.{registers_of}
use Rattle.program.specs.Programs.{code_of}
use Rattle.machine.specs.Fits.{Fit}
use Rattle.machine.proofs.Fitting.{few_registers, fits, fits_eight}
use Rattle.machine.proofs.Programs.{code_long, code_pairs}
use Rattle.counting.specs.Counting.{Countable}

pub countable : (s : Program) → Countable (code_of s)
countable s =
    let h = s.header in
    let list = vec_items s.list in
    record {
      fits = λ p lt.
          let l : p < s.header.count = omega (arith, code_long s) in
          let i = get_or list p Again in
          subst (Fit 32 8) (sym (get_or-take h.count list p Again l)) (fits_eight h.used i s.few (fits (registers_of h.kind) h.used (few_registers h.kind) i (s.bounds p l)));
      pairs = code_pairs s;
    }
