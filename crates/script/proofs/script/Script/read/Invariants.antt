use Rattle.std.proofs.Common.{◌≡◌, map}
use Rattle.script.specs.Scripts.{said, told_from}
use Rattle.script.proofs.Reading.{whole}
use Rattle.script.proofs.script.Script.read.Given as goal

abbrev pub invariant-loop-index : goal.invariant-loop-index
invariant-loop-index l =
    whole (map (λ x. x.now) l.text-items) l.index (map said l.lines.items) ≡ told_from 1 (map (λ x. x.now) l.text-items)
