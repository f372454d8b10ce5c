-- The kind of a number, where a conversion gave one.
use Rattle.std.proofs.Common.{◌≡◌, ℕ, true, false, leb, Some, None, Ok, Err, Result, arith}
use Rattle.std.specs.Result.{result_ok}
use Rattle.std.proofs.lemmas.Bool.{le-leb, lt-leb}
use Rattle.program.specs.declared.header.Kind.{Kind}
use Rattle.program.specs.declared.header.UnknownKind.{UnknownKind}
use Rattle.program.specs.Headers.{kind_of, NamesKind}

pub kind_none : (code : ℕ) (r : Result Kind UnknownKind) → NamesKind code r → None ≡ result_ok r → leb code 1 ≡ false
kind_none code (Ok k) named e = let z : ◌≡◌ {A = ℕ} 0 1 = cc in absurd (omega arith)
kind_none code (Err u) named e = lt-leb code 1 named.1

pub kind_some : (code : ℕ) (r : Result Kind UnknownKind) (k : Kind) → NamesKind code r → Some k ≡ result_ok r → (k ≡ kind_of code) × (leb code 1 ≡ true)
kind_some code (Ok k') k named e = (cc (named.0), le-leb code 1 named.1)
kind_some code (Err u) k named e = let z : ◌≡◌ {A = ℕ} 0 1 = cc in absurd (omega arith)
