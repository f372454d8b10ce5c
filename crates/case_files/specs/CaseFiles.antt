-- How many cases a case file has, of whichever kind they are.
use Rattle.std.specs.Prelude.{ℕ, Bool, cond, List, codes}
use Rattle.std.specs.List.{list_any}
use Rattle.std.specs.Str.Lines.{lines}
use Rattle.cases.specs.Counts.{cases_in}
use Rattle.blocks.specs.Counts.{begins, blocks_in}

-- whether a line begins a block
abbrev pub has_blocks : List ℕ → List ℕ → Bool
has_blocks head text = list_any (begins head) (lines text)

abbrev pub count_of : List ℕ → ℕ
count_of text =
    cond (has_blocks (codes "memory ") text) (blocks_in (codes "memory ") text)
    (cond (has_blocks (codes "bench ") text) (blocks_in (codes "bench ") text) (cases_in text))
