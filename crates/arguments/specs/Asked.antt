-- What words ask for, one by one and together.
use Rattle.std.specs.Prelude.{ℕ, Bool, false, cond, not, ◌&&◌, ◌||◌, List, Some, None, Ok, Err, Option, Result, String, string_bytes, codes}
use Rattle.std.specs.Str.{bytes_eq}
use Rattle.arguments.specs.declared.argument_error.ArgumentError.{ArgumentError}
use Rattle.arguments.specs.declared.argument_error.ArgumentError.TheVariants.{NoTarget, HidesNothing, RunUnseen}

-- a word is read as such, where it is not the target that is awaited
abbrev pub says : Bool → List ℕ → List ℕ → Bool
says awaits text word = not awaits && bytes_eq text word

-- no word of the command line, and so a word on what a run starts from
abbrev pub is_input : Bool → List ℕ → Bool
is_input awaits text = not awaits && not (bytes_eq text (codes "convert") || (bytes_eq text (codes "hides") || bytes_eq text (codes "run")))

-- a dash stands for standard output
abbrev pub is_dash : {A : Type 0} → Option (String A) → Bool
is_dash None = false
is_dash (Some target) = bytes_eq (string_bytes target) (codes "-")

-- what makes no sense together, the first that applies
abbrev pub flaw : (awaits aimed hides dash runs : Bool) → Option ArgumentError
flaw awaits aimed hides dash runs = cond awaits (Some NoTarget) (cond (hides && not aimed) (Some HidesNothing) (cond (dash && runs) (Some RunUnseen) None))

abbrev pub flaw_of : {X : Type 0} → Result X ArgumentError → Option ArgumentError
flaw_of (Ok x) = None
flaw_of (Err e) = Some e
