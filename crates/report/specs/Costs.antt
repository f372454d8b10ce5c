-- What an access costs on two memories.
use Rattle.std.specs.Prelude.{ℕ, ◌*◌}
use Rattle.program.specs.Hold.{hold}
use Rattle.memory.specs.declared.Access.{Access}
use Rattle.full_scan.specs.Scan.{turn_cost}

abbrev pub flat_cost : Access → ℕ → ℕ
flat_cost access len = 1

-- with a full scan over flat cells
abbrev pub scan_cost : Access → ℕ → ℕ
scan_cost access len = hold (len * turn_cost flat_cost access len)
