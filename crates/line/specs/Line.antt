-- A layer that shows only the line of each mark below it, as a cache does.
use Rattle.std.specs.Prelude.{ℕ, ◌/◌, ◌^◌, map}
use Rattle.memory.specs.Description.{Mark, Rules, Description}

-- lines of 2 to the exponent
abbrev pub line_of : ℕ → Mark → Mark
line_of exponent mark = mark / 2 ^ exponent

abbrev pub line_rules : ℕ → Rules → Rules
line_rules e r = record { limit = r.limit; shows = λ k base len off. map (line_of e) (r.shows k base len off); cost = r.cost; hides = r.hides }

abbrev pub line_over : ℕ → Description → Description
line_over e d = record { cells = d.cells; seen = map (line_of e) d.seen; rules = line_rules e d.rules }
