-- What is known at a place of a source that may be passed.
use Rattle.std.proofs.Common.{◌≡◌, ℕ, ◌<◌, true, List, length, get_or, ap, ◌∙◌}
use Rattle.std.proofs.lemmas.List.{get_or_default}
use Rattle.instructions.specs.declared.Instruction.{Instruction}
use Rattle.instructions.specs.declared.Instruction.TheVariants.{Again}
use Rattle.program.specs.Bounds.{bound}
use Rattle.plan.specs.Planned.{Passable}

-- the instruction there is within the bounds of a source
pub within : (code : List Instruction) (p : ℕ) (d : Instruction) → Passable code → p < length code → bound 16 8 (get_or code p d) ≡ true
within code p d good lt = ap (bound 16 8) (get_or_default code p d Again lt) ∙ good.bounds p lt
