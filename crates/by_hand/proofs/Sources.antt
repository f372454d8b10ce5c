-- Each routine is a source.
use Rattle.std.proofs.Common.{◌≡◌, ℕ, zero, suc, ◌<◌, ◌≤◌, Bool, true, false, [], length, get_or, take, is_some, ltb, refl, arith}
use Rattle.instructions.specs.declared.Instruction.TheVariants.{Again}
use Rattle.program.specs.Bounds.{bound}
use Rattle.program.specs.Firsts.{all_below}
use Rattle.program.specs.Headers.{no_table, table_fits}
use Rattle.program.specs.Pairing.{pairing}
use Rattle.program.proofs.Firsts.{all_tells}
use Rattle.conversion.specs.Sources.{IsSource}
use Rattle.by_hand.specs.declared.routine.Routine.{Routine}
use Rattle.by_hand.specs.declared.routine.Routine.TheVariants.{Choose, Lookup, Update, ArmWithConst, ArmWithoutConst, Walk, Rounds, TooManyRounds}
use Rattle.by_hand.specs.Routines.{instructions, four_cells, source}

tables_fit : (secret : Bool) (i : ℕ) → i < 8 → table_fits (get_or (four_cells secret) i no_table) (ltb i 1) ≡ true
tables_fit secret zero h = refl
tables_fit secret (suc zero) h = refl
tables_fit secret (suc (suc zero)) h = refl
tables_fit secret (suc (suc (suc zero))) h = refl
tables_fit secret (suc (suc (suc (suc zero)))) h = refl
tables_fit secret (suc (suc (suc (suc (suc zero))))) h = refl
tables_fit secret (suc (suc (suc (suc (suc (suc zero)))))) h = refl
tables_fit secret (suc (suc (suc (suc (suc (suc (suc zero))))))) h = refl
tables_fit secret (suc (suc (suc (suc (suc (suc (suc (suc i)))))))) h = absurd (omega arith)

-- every instruction keeps the bounds
bounded : (routine : Routine) → all_below (λ p. bound 16 1 (get_or (instructions routine) p Again)) (length (instructions routine)) ≡ true
unfolding all_below
bounded Choose = refl
bounded Lookup = refl
bounded Update = refl
bounded ArmWithConst = refl
bounded ArmWithoutConst = refl
bounded Walk = refl
bounded Rounds = refl
bounded TooManyRounds = refl

paired : (routine : Routine) → is_some (pairing [] 0 (take (length (instructions routine)) (instructions routine))) ≡ false
paired Choose = refl
paired Lookup = refl
paired Update = refl
paired ArmWithConst = refl
paired ArmWithoutConst = refl
paired Walk = refl
paired Rounds = refl
paired TooManyRounds = refl

short : (routine : Routine) → length (instructions routine) ≤ 200
short Choose = omega arith
short Lookup = omega arith
short Update = omega arith
short ArmWithConst = omega arith
short ArmWithoutConst = omega arith
short Walk = omega arith
short Rounds = omega arith
short TooManyRounds = omega arith

pub sources : (routine : Routine) (secret : Bool) (entry : ℕ) → entry < 65536 → IsSource (source secret entry (instructions routine)) (instructions routine)
sources routine secret entry narrow = record {
  kind = refl;
  header = record { eight = refl; few = omega arith; tables = tables_fit secret; cells = omega arith; short = short routine; narrow = narrow };
  list = record { room = omega arith; bounds = all_tells _ (length (instructions routine)) (bounded routine); pairs = paired routine };
  whole = refl;
}
