-- Why a line is no call, as text.
use Rattle.std.specs.Prelude.{ℕ, List, ◌++◌, codes, decimal}
use Rattle.script.specs.declared.unread.Stop.{Stop}
use Rattle.script.specs.declared.unread.Unread.{Unread}
use Rattle.script.specs.declared.unread.Unread.TheVariants.{NoSuchCall, NotItsArguments}

abbrev pub unread_text : Unread → List ℕ
unread_text NoSuchCall = codes "no such call"
unread_text NotItsArguments = codes "not what this call takes"

abbrev pub stop_text : Stop → List ℕ
stop_text stop = codes "line " ++ (decimal stop.line ++ (codes ": " ++ unread_text stop.why))
