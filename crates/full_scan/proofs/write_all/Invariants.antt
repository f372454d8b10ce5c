use Rattle.std.proofs.Common.{◌≡◌}
use Rattle.memory.specs.declared.Access.TheVariants.{Write}
use Rattle.memory.specs.Description.{marked}
use Rattle.full_scan.specs.Scan.{turns}
use Rattle.full_scan.proofs.Rewrites.{rewritten}
use Rattle.full_scan.proofs.write_all.Given as goal

abbrev pub invariant-loop-at : goal.invariant-loop-at
invariant-loop-at g l =
    let d = g.M.Memory.model l.initial.below in
    g.M.Memory.model l.below ≡ marked d (rewritten d.cells l.table.first l.off l.word l.at) (turns d.rules.shows Write l.table.first l.table.length l.at)
