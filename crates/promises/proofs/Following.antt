-- A run of the result of an accepted source comes to its end, and follows the source's.
use Rattle.std.proofs.Common.{◌≡◌, ℕ, Bool, List, length, sym, ap, subst, arith}
use Rattle.std.proofs.lemmas.List.{get_or_past}
use Rattle.machine.specs.States.{State}
use Rattle.machine.specs.Machine.{state_of, first}
use Rattle.converter.specs.Converting.{smallest_labels}
use Rattle.converter.proofs.Keeping.{tree_of}
use Rattle.simulation.specs.Results.{FollowsRun}
use Rattle.simulation.proofs.Results.{result_follows}
use Rattle.secrecy.specs.Whole.{EndsIn}
use Rattle.calls.specs.Benches.{Seated, comes}
use Rattle.calls.specs.Calls.{converted}
use Rattle.promises.specs.Kept.{AcceptedSource, result_run, RunsFollow}

-- the smallest labels of a source
abbrev pub labels : Seated → ℕ → ℕ → Bool
labels s = smallest_labels s.header s.code

module _ {hides : Bool} (s : Seated) (ok : AcceptedSource hides s) where
  module _ (entry cells : List ℕ) (low : length entry ≡ 16) where
    ended : (z : State) × EndsIn s.header.tables (converted s).code (first entry cells) z × FollowsRun (comes s entry cells) z
    ended = result_follows (labels s) s.header s.code (first entry cells) ok.source.header (tree_of s.header s.code ok.source) ok.short (get_or_past entry 24 0 (omega arith))

    pub ends : EndsIn s.header.tables (converted s).code (first entry cells) (result_run s entry cells)
    ends = subst (EndsIn s.header.tables (converted s).code (first entry cells)) (sym (ap state_of ended.1)) ended.1

    pub follows : FollowsRun (comes s entry cells) (result_run s entry cells)
    follows = subst (FollowsRun (comes s entry cells)) (sym (ap state_of ended.1)) ended.2

pub runs_follow : RunsFollow
runs_follow hides s entry cells ok low = follows s ok entry cells low
