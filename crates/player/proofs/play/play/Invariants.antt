use Rattle.std.proofs.Common.{◌≡◌}
use Rattle.calls.specs.Benches.{new}
use Rattle.calls.specs.Calls.{after_all}
use Rattle.bench.specs.Views.{view}
use Rattle.player.specs.Entries.{entries_of}
use Rattle.player.proofs.Playing.{whole_log, whole_after, WholeOfBytes}
use Rattle.player.proofs.play.play.Given as goal

abbrev pub invariant-loop-call : goal.invariant-loop-call
invariant-loop-call g l =
    let model = g.M.Memory.model in
    let first = new (model l.fn.memory) in
    (whole_log l.calls l.call-index (view model l.bench) l.log.items ≡ entries_of l.calls first)
    × (whole_after l.calls l.call-index (view model l.bench) ≡ after_all l.calls first)
    × WholeOfBytes l.calls l.call-index
