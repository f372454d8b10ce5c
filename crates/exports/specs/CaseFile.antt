-- What is told of a case file.
use Rattle.std.specs.Prelude.{◌≡◌, ℕ, List}
use Rattle.tally.specs.declared.report.Report.{Report}
use Rattle.counted.specs.Counted.{Counted}
use Rattle.case_files.specs.CaseFiles.{count_of}
use Rattle.exports.specs.declared.case_file.Agreed.{Agreed}

-- the numbers are those of a report on every case of the text
abbrev pub Told : List ℕ → Agreed → Type 0
Told text a = a.number ≡ 0 → (report : Report) × Counted (count_of text) report × (a.agree ≡ report.tally.agree) × (a.all ≡ report.tally.all)
