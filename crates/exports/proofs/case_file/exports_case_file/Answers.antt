use Rattle.std.proofs.Common.{subst}
use Rattle.counted.specs.Counted.{Counted}
use Rattle.case_files.specs.CaseFiles.{count_of}
use Rattle.exports.proofs.case_file.exports_case_file.Goals as goal

pub returns-in-Ok-run-clause-counted : goal.returns-in-Ok-run-clause-counted
returns-in-Ok-run-clause-counted c told =
    let report = c.in-Ok-run.report in
    (report, subst (λ text. Counted (count_of text) report) c.in-Ok.ensures.cases.0 c.in-Ok-run.ensures, c.told.ensures.agree, c.told.ensures.all)
