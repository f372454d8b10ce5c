use Rattle.std.proofs.Common.{◌≡◌, ◌++◌, map, take, drop, vec_items}
use Rattle.image.specs.Images.{instruction_of}
use Rattle.image.proofs.reader.fill.Given as goal

abbrev pub invariant-loop-place : goal.invariant-loop-place
invariant-loop-place l = vec_items l.list ≡ map instruction_of (take l.place l.code) ++ drop l.place (vec_items l.initial.list)
