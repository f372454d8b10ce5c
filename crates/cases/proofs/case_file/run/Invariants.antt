use Rattle.std.proofs.Common.{length, take}
use Rattle.std.specs.List.{sum_by}
use Rattle.std.specs.Str.Lines.{lines}
use Rattle.counted.specs.Counted.{Counted}
use Rattle.cases.specs.Counts.{case_count}
use Rattle.cases.proofs.case_file.run.Given as goal

abbrev pub invariant-loop-index : goal.invariant-loop-index
invariant-loop-index l = Counted (sum_by case_count (take (length l.yielded) (lines l.text))) l.report
