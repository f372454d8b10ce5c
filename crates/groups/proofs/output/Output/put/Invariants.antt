use Rattle.std.proofs.Common.{◌≡◌, ◌++◌, take}
use Rattle.groups.specs.Groups.{straight}
use Rattle.groups.proofs.output.Output.put.Given as goal

abbrev pub invariant-loop-op : goal.invariant-loop-op
invariant-loop-op l = l.self ≡ l.initial.self ++ straight (take l.op-index l.ops)
