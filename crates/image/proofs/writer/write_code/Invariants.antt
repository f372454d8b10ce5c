use Rattle.std.proofs.Common.{◌≡◌, ◌*◌, ◌++◌, take, drop}
use Rattle.image.specs.Images.{code_bytes}
use Rattle.image.proofs.writer.write_code.Given as goal

abbrev pub invariant-loop-i : goal.invariant-loop-i
invariant-loop-i l = l.out ≡ code_bytes (take l.i l.code) ++ drop (8 * l.i) l.initial.out
