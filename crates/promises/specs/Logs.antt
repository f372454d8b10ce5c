-- The log of a list of calls: for each call its answer, what it visited, and what was then seen.
use Rattle.std.specs.Prelude.{List, [], ◌∷◌, Ok, Err, Result}
use Rattle.program.specs.declared.refusal.Refusal.{Refusal}
use Rattle.memory.specs.Description.{Mark}
use Rattle.machine.specs.declared.visit.Visit.{Visit}
use Rattle.calls.specs.declared.Call.{Call}
use Rattle.calls.specs.declared.Answer.{Answer}
use Rattle.calls.specs.Benches.{Bench}
use Rattle.calls.specs.Calls.{answer, after, visited}

pub record Entry : Type 0 where
  pub call : Call
  pub answer : Result Answer Refusal
  pub visits : List Visit
  pub seen : List Mark

abbrev pub log : List Call → Bench → List Entry
log [] b = []
log (c ∷ cs) b =
    record { call = c; answer = answer c b; visits = visited c b; seen = (after c b).memory.seen }
    ∷ log cs (after c b)

-- P where the call was refused, Q of the answer where it was accepted
abbrev pub heard : Result Answer Refusal → Type 0 → (Answer → Type 0) → Type 0
heard (Err why) P Q = P
heard (Ok a) P Q = Q a
