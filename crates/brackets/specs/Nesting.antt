-- Brackets pair exactly where the instructions are the writing-out of nested blocks.
use Rattle.std.specs.Prelude.{◌≡◌, List, [], None}
use Rattle.instructions.specs.declared.Instruction.{Instruction}
use Rattle.program.specs.Pairing.{pairing}
use Rattle.program.specs.Blocks.{Nested}

abbrev pub PairedIsNested : Type 0
PairedIsNested = (code : List Instruction) → (pairing [] 0 code ≡ None → Nested code) × (Nested code → pairing [] 0 code ≡ None)
