use Rattle.std.proofs.Common.{rules, tests}
use Rattle.std.proofs.lemmas.Iterator.Search.{any_from_yields_List}
use Rattle.std.proofs.lemmas.Iterator.Splits.{YieldsList-from_lines}
use Rattle.blocks.specs.Counts.{begins}
use Rattle.case_files.proofs.has_blocks.Goals as goal

pub returns : goal.returns
returns c =
    any_from_yields_List (begins c.args.head.now) _ _ c.any.result c.any.ensures.ran (YieldsList-from_lines c.args.text.now c.lines.ensures.rest) (λ x b q h. search (rules, tests))
