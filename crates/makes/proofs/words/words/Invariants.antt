use Rattle.std.proofs.Common.{◌≤◌, vec_len}
use Rattle.makes.proofs.words.words.Given as goal

abbrev pub invariant-loop-part : goal.invariant-loop-part
invariant-loop-part l = vec_len l.words ≤ 1000000
