-- Why a case comes to nothing, as text.
use Rattle.std.specs.Prelude.{ℕ, List, codes}
use Rattle.trials.specs.declared.answer.Answer.TheVariants.{Refused as RefusedAnswer}
use Rattle.trials.specs.Answers.{answer_text}
use Rattle.cases.specs.declared.case_error.CaseError.{CaseError}
use Rattle.cases.specs.declared.case_error.CaseError.TheVariants.{UnknownKind, Unreadable, Refused, OutOfMemory}

abbrev pub case_error_text : CaseError → List ℕ
case_error_text UnknownKind = codes "no way to run this kind of case"
case_error_text Unreadable = codes "a case that cannot be read"
case_error_text (Refused refusal) = answer_text (RefusedAnswer refusal)
case_error_text (OutOfMemory full) = codes "out of memory"
