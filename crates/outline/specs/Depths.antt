-- How many openings are open around a line, and how far in it stands.
use Rattle.std.specs.Prelude.{ℕ, pred}
use Rattle.instructions.specs.declared.Instruction.{Instruction}
use Rattle.instructions.specs.declared.Instruction.TheVariants.{Do, If, Else, End, Repeat, Again}

-- a bracket that closes or turns an opening stands as far in as the bracket that opened it
abbrev pub indent : ℕ → Instruction → ℕ
indent around (Do op) = around
indent around (If a) = around
indent around Else = pred around
indent around End = pred around
indent around (Repeat a k) = around
indent around Again = pred around
