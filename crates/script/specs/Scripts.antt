-- What a text asks for, line by line.
use Rattle.std.specs.Prelude.{ℕ, suc, cond, ◌||◌, List, [], ◌∷◌, map, length, Some, None, Ok, Err, Option, Result, vec_items, ◌==◌, slice_index}
use Rattle.std.specs.Str.{trim}
use Rattle.script.specs.declared.script.Line.{Line}
use Rattle.script.specs.declared.unread.Stop.{Stop}
use Rattle.script.specs.declared.script.Script.{Script}
use Rattle.script.specs.declared.unread.Unread.{Unread}
use Rattle.script.specs.Orders.{Asked, asked, read_as}

-- a line with a hash in front is a comment
abbrev pub line_asks : List ℕ → Option (Result Asked Unread)
line_asks line = cond (length (trim line) == 0 || slice_index (trim line) 0 == 35) None (Some (read_as (trim line)))

-- a line that asks for something
pub record Asking : Type 0 where
  pub number : ℕ
  pub text : List ℕ
  pub asks : Asked

abbrev pub asking : ℕ → List ℕ → Asked → Asking
asking n line a = record { number = n; text = line; asks = a }

-- those up to the first line that is no call, and which line that is
pub record Told : Type 0 where
  pub lines : List Asking
  pub stop : Option Stop

abbrev pub tell : List Asking → Option Stop → Told
tell lines stop = record { lines = lines; stop = stop }

abbrev pub said : Line → Asking
said l = asking l.number l.text.now (asked l.order)

abbrev pub told : Script → Told
told s = tell (map said (vec_items s.lines)) s.stop

-- line n, by what it asks, and what comes of the later ones
abbrev pub with_line : ℕ → List ℕ → Option (Result Asked Unread) → Told → Told
with_line n line None later = later
with_line n line (Some (Ok a)) later = tell (asking n line a ∷ later.lines) later.stop
with_line n line (Some (Err why)) later = tell [] (Some (record { line = n; why = why }))

-- lines from number n on
abbrev pub told_from : ℕ → List (List ℕ) → Told
told_from n [] = tell [] None
told_from n (l ∷ ls) = with_line n l (line_asks l) (told_from (suc n) ls)
