use Rattle.std.proofs.Common.{◌≡◌, [], map, drop}
use Rattle.program.specs.Pairing.{pairing}
use Rattle.brackets.specs.Labelled.{unmarked}
use Rattle.image.specs.Images.{instruction_of}
use Rattle.image.proofs.reader.check_brackets.Given as goal

abbrev pub invariant-loop-place : goal.invariant-loop-place
invariant-loop-place l = pairing (unmarked l.matcher) l.place (drop l.place (map instruction_of l.code)) ≡ pairing [] 0 (map instruction_of l.code)
