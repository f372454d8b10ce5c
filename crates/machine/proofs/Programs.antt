-- What a program's invariant says of its instructions.
use Rattle.std.proofs.Common.{◌≡◌, ◌≤◌, [], length, None, vec_items, arith, length-take}
use Rattle.program.specs.declared.program.Program.{Program}
use Rattle.program.specs.Pairing.{pairing}
use Rattle.program.specs.Programs.{code_of}
use Rattle.program.proofs.Refusals.{none}
use Rattle.program.proofs.Headers.{longest_short}

module _ (s : Program) where
  pub code_long : length (code_of s) ≡ s.header.count
  code_long = omega (arith, length-take s.header.count (vec_items s.list), s.room)

  pub code_short : s.header.count ≤ 3000
  code_short = omega (arith, longest_short s.header.kind, s.short)

  pub code_pairs : pairing [] 0 (code_of s) ≡ None
  code_pairs = none (pairing [] 0 (code_of s)) s.pairs
