use Rattle.std.proofs.Common.{◌≡◌, ℕ, ◌+◌, false, length, drop, is_some}
use Rattle.std.specs.Str.Lines.{lines}
use Rattle.counted.specs.Counted.{Counted}
use Rattle.blocks.specs.Counts.{blocks_among}
use Rattle.blocks.proofs.run.Given as goal

abbrev pub invariant-loop-index : goal.invariant-loop-index
invariant-loop-index g l = (n : ℕ) × Counted n l.report × (n + blocks_among g.H.Held.head (is_some l.block) (drop (length l.yielded) (lines l.text)) ≡ blocks_among g.H.Held.head false (lines l.text))
