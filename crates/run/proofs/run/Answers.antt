use Rattle.std.proofs.Common.{refl}
use Rattle.std.proofs.lemmas.Result.{err_from_is_err_and}
use Rattle.program.specs.Programs.{code_of}
use Rattle.machine.proofs.Programs.{code_pairs}
use Rattle.execution.proofs.Whole.{runs_end}
use Rattle.run.proofs.Going.{nested_of, reads_nested}
use Rattle.run.proofs.run.Goals as goal

pub returns-in_err-test : goal.returns-in_err-test
returns-in_err-test g c =
    let s = c.args.program.now in
    let p = err_from_is_err_and c.from_residual.result c.from_residual.ensures.1 in
    record {
      ran = rw (p.1, p.2) (c.in_err-test.ensures, refl, refl);
      nested = reads_nested s.header.tables (code_of s) c.args.entry.now (g.M.Memory.model c.args.memory.now).cells (nested_of (code_of s) (code_pairs s));
      ends = runs_end;
    }

pub returns : goal.returns
returns g c =
    let s = c.args.program.now in
    record {
      ran = (c.in_ok-test.ensures.0, c.go.ensures);
      nested = reads_nested s.header.tables (code_of s) c.args.entry.now (g.M.Memory.model c.args.memory.now).cells (nested_of (code_of s) (code_pairs s));
      ends = runs_end;
    }
