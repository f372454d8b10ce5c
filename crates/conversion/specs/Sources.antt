-- What reading a source gives: a sound header, and as many sound instructions as it says.
use Rattle.std.specs.Prelude.{◌≡◌, Bool, List, [], ℕ, length}
use Rattle.instructions.specs.declared.Instruction.{Instruction}
use Rattle.program.specs.declared.header.Header.{Header}
use Rattle.program.specs.declared.header.Kind.TheVariants.{Source}
use Rattle.program.specs.Sound.{SoundHeader, SoundList}
use Rattle.groups.specs.Groups.{lengths}
use Rattle.conversion.specs.Conversion.{convert}

pub record IsSource (h : Header) (code : List Instruction) : Type 0 where
  pub kind : h.kind ≡ Source
  pub header : SoundHeader h
  pub list : SoundList h code
  pub whole : length code ≡ h.count

-- what the code of a source becomes, by any labels
abbrev pub result_by : (ℕ → ℕ → Bool) → Header → List Instruction → List Instruction
result_by S h code = convert (lengths h.tables) S [] 0 code
