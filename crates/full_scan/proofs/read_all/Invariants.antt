use Rattle.std.proofs.Common.{◌≡◌, ◌+◌, ◌<◌, get_or}
use Rattle.memory.specs.declared.Access.TheVariants.{Read}
use Rattle.memory.specs.Description.{marked}
use Rattle.full_scan.specs.Scan.{turns}
use Rattle.full_scan.proofs.read_all.Given as goal

abbrev pub invariant-loop-at : goal.invariant-loop-at
invariant-loop-at g l =
    let d = g.M.Memory.model l.initial.below in
    (g.M.Memory.model l.below ≡ marked d d.cells (turns d.rules.shows Read l.table.first l.table.length l.at))
    × (l.off < l.at → l.found ≡ get_or d.cells (l.table.first + l.off) 0)
