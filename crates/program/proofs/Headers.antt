-- No program is longer than the longest.
use Rattle.std.proofs.Common.{◌≤◌, arith}
use Rattle.program.specs.declared.header.Kind.{Kind}
use Rattle.program.specs.declared.header.Kind.TheVariants.{Source, Converted}
use Rattle.program.specs.Headers.{longest}

pub longest_short : (k : Kind) → longest k ≤ 3000
longest_short Source = omega arith
longest_short Converted = omega arith
