use Rattle.std.proofs.Common.{◌≡◌, ◌++◌, length, drop}
use Rattle.stack.specs.Held.{held}
use Rattle.program.specs.Programs.{code_of}
use Rattle.jumps.proofs.Resolving.{Passed}
use Rattle.jumps.proofs.resolve.Given as goal

-- the instructions that are left are the first ones, and the pass has come down to their end
abbrev pub invariant-loop-place : goal.invariant-loop-place
invariant-loop-place l =
    let rest = l.place-iterator.iter.iter.rest.now in
    let code = code_of l.program in
    record {
      count : l.place-iterator.iter.count ≡ 0;
      front : rest ++ drop (length rest) code ≡ code;
      passed : Passed code (length rest) (held l.closers) l.jumps;
    }
