-- What the log has of a call.
use Rattle.std.proofs.Common.{[], Option}
use Rattle.program.specs.declared.refusal.Refusal.{Refusal}
use Rattle.memory.specs.Accesses.{answered, left}
use Rattle.calls.specs.declared.Call.{Call}
use Rattle.calls.specs.Benches.{Bench}
use Rattle.calls.specs.Calls.{leaves, replies, visits}
use Rattle.promises.specs.Logs.{Entry}

-- by why the call is refused, or that it is not
abbrev pub logged : Call → Bench → Option Refusal → Entry
logged c b why = record { call = c; answer = answered why (replies c b); visits = left why [] (visits c b); seen = (left why b (leaves c b)).memory.seen }
