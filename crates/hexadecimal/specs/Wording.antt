-- Why a text gives no bytes, as text.
use Rattle.std.specs.Prelude.{ℕ, List, codes}
use Rattle.hexadecimal.specs.declared.DecodeError.{DecodeError}
use Rattle.hexadecimal.specs.declared.DecodeError.TheVariants.{NotHexadecimal, OutOfMemory}

abbrev pub decode_error_text : DecodeError → List ℕ
decode_error_text NotHexadecimal = codes "not hexadecimal"
decode_error_text (OutOfMemory full) = codes "out of memory"
