use Rattle.std.proofs.Common.{◌++◌, map, sym, ap, ◌∙◌, arith}
use Rattle.calls.specs.Benches.{Bench}
use Rattle.calls.specs.Calls.{after_all}
use Rattle.bench.specs.Views.{view}
use Rattle.promises.proofs.Promises.{promised}
use Rattle.player.specs.Entries.{shown, entries_of}
use Rattle.player.proofs.Playing.{log_more, after_more, bytes_more, log_over, after_over, bytes_over}
use Rattle.player.proofs.play.play.Goals as goal

pub returns-in_err-bench-clause-promises : goal.returns-in_err-bench-clause-promises
returns-in_err-bench-clause-promises g c = promised _ (g.met.M.Memory.lawful c.args.memory)

pub loop-call-init : goal.loop-call-init
loop-call-init g c =
    let cs = c.args.calls.now in
    let is = c.in_ok-bench.ensures in
    ((λ t. map shown (c.new-log.ensures.items t) ++ entries_of cs (is t)), ap (after_all cs) is, λ all. all)

pub returns-in_err-enter-clause-promises : goal.returns-in_err-enter-clause-promises
returns-in_err-enter-clause-promises g c = promised _ (g.met.M.Memory.lawful c.args.memory)

pub returns-in_err-push-clause-promises : goal.returns-in_err-push-clause-promises
returns-in_err-push-clause-promises g c = promised _ (g.met.M.Memory.lawful c.args.memory)

pub loop-call-preserved : goal.loop-call-preserved
loop-call-preserved g c =
    let cs = c.args.calls.now in
    let l = c.loop-call in
    let call = c.call-item.result in (
      log_more cs l.call-index call c.loop-call-test.true c.call-item.is _ _ c.in_ok-enter.ensures.after _ _ _ c.in_ok-push.ensures.items c.in_ok-enter.ensures.entry ∙ l.invariant.0,
      after_more cs l.call-index call c.loop-call-test.true c.call-item.is _ _ c.in_ok-enter.ensures.after ∙ l.invariant.1,
      bytes_more cs l.call-index call c.loop-call-test.true c.call-item.is c.in_ok-enter.ensures.bytes l.invariant.2,
    )

pub returns-clause-log : goal.returns-clause-log
returns-clause-log g c =
    let l = c.loop-call in
    sym (log_over c.args.calls.now l.call-index (view g.M.Memory.model l.bench) (omega arith) l.log.items) ∙ l.invariant.0

pub returns-clause-memory : goal.returns-clause-memory
returns-clause-memory g c =
    let l = c.loop-call in
    c.into_memory.ensures ∙ ap (λ (b : Bench). b.memory) (sym (after_over c.args.calls.now l.call-index (view g.M.Memory.model l.bench) (omega arith)) ∙ l.invariant.1)

pub returns-clause-promises : goal.returns-clause-promises
returns-clause-promises g c = promised _ (g.met.M.Memory.lawful c.args.memory)

pub returns-clause-bytes : goal.returns-clause-bytes
returns-clause-bytes g c = bytes_over c.args.calls.now c.loop-call.call-index (omega arith) c.loop-call.invariant.2
