-- What every program keeps.
use Rattle.std.specs.Prelude.{◌≡◌, ℕ, ◌<◌, ◌≤◌, true, false, List, [], length, take, is_some, nat_lt, slice_index_or}
use Rattle.program.specs.declared.header.Header.{Header}
use Rattle.instructions.specs.declared.Instruction.{Instruction}
use Rattle.instructions.specs.declared.Instruction.TheVariants.{Again}
use Rattle.program.specs.Headers.{registers_of, longest, no_table, table_fits, cells_of}
use Rattle.program.specs.Bounds.{bound}
use Rattle.program.specs.Pairing.{pairing}

pub record SoundHeader (h : Header) : Type 0 where
  pub eight : length h.tables ≡ 8
  pub few : h.used ≤ 8
  pub tables : (i : ℕ) → i < 8 → table_fits (slice_index_or h.tables i no_table) (nat_lt i h.used) ≡ true
  pub cells : cells_of h.tables ≤ 4096
  pub short : h.count ≤ longest h.kind
  pub narrow : h.secret_entry < 65536

-- the first entries of a list, as many as the header says, are its instructions
pub record SoundList (h : Header) (list : List Instruction) : Type 0 where
  pub room : h.count ≤ length list
  pub bounds : (p : ℕ) → p < h.count → bound (registers_of h.kind) h.used (slice_index_or list p Again) ≡ true
  pub pairs : is_some (pairing [] 0 (take h.count list)) ≡ false
