-- Why the arguments make no sense, as text.
use Rattle.std.specs.Prelude.{ℕ, List, codes}
use Rattle.arguments.specs.declared.argument_error.ArgumentError.{ArgumentError}
use Rattle.arguments.specs.declared.argument_error.ArgumentError.TheVariants.{NoTarget, SecondTarget, HidesNothing, RunUnseen, OutOfMemory}

abbrev pub argument_error_text : ArgumentError → List ℕ
argument_error_text NoTarget = codes "convert names no file"
argument_error_text SecondTarget = codes "convert stands twice"
argument_error_text HidesNothing = codes "hides stands without convert"
argument_error_text RunUnseen = codes "convert - shows no run"
argument_error_text (OutOfMemory full) = codes "out of memory"
