-- A run, as text.
use Rattle.std.specs.Prelude.{ℕ, List, ◌++◌, codes, decimal, Some, None, Option}
use Rattle.machine.specs.declared.visit.Choice.{Choice}
use Rattle.machine.specs.declared.visit.Choice.TheVariants.{Onward, Inward, Past, Fault}
use Rattle.machine.specs.declared.visit.Visit.{Visit}
use Rattle.run.specs.declared.Outcome.{Outcome}

abbrev pub choice_name : Choice → List ℕ
choice_name Onward = codes "onward"
choice_name Inward = codes "inward"
choice_name Past = codes "past"
choice_name Fault = codes "fault"

abbrev pub visit_text : Visit → List ℕ
visit_text v = codes "visit " ++ (decimal v.place ++ (codes " " ++ choice_name v.choice))

abbrev pub fault_text : Option ℕ → List ℕ
fault_text None = codes "no fault"
fault_text (Some place) = codes "fault at " ++ decimal place

abbrev pub totals_text : Outcome → List ℕ
totals_text o = codes "steps " ++ (decimal o.steps ++ (codes ", marks " ++ (decimal o.marks ++ (codes ", " ++ fault_text o.fault))))
