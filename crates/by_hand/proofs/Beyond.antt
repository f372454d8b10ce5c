-- A guarded access by an index past the end of the table is made at offset 0.
use Rattle.std.proofs.Common.{◌≡◌, ℕ, suc, ◌≤◌, Bool, true, false, List, [], ◌∷◌, refl, ap, ◌∙◌, arith}
use Rattle.std.specs.Prelude.{nat_lt}
use Rattle.instructions.specs.declared.BinaryOp.TheVariants.{Below}
use Rattle.instructions.specs.declared.Value.TheVariants.{Const, Binary}
use Rattle.instructions.specs.declared.Op.TheVariants.{Set}
use Rattle.instructions.specs.declared.Instruction.{Instruction}
use Rattle.instructions.specs.declared.Instruction.TheVariants.{Do}
use Rattle.machine.specs.Words.{bit}
use Rattle.machine.specs.declared.visit.Choice.TheVariants.{Onward}
use Rattle.machine.specs.States.{State, visited, with_register}
use Rattle.machine.specs.Machine.{state_of, go, first, start, steps}
use Rattle.by_hand.specs.Routines.{four_cells, entry}

-- const 25,4; below 25,1,25; and more
abbrev guarded_by : List Instruction → List Instruction
guarded_by rest = Do (Set 25 (Const 4)) ∷ Do (Set 25 (Binary Below 1 25)) ∷ rest

-- the state after those two, where c tells that the index is in range
abbrev told : ℕ → List ℕ → Bool → State
told index cells c = with_register 25 (bit c) (visited 1 Onward (with_register 25 4 (visited 0 Onward (first (entry index) cells))))

two_steps : (rest : List Instruction) (n index : ℕ) (cells : List ℕ)
    → steps (four_cells true) (guarded_by rest) (suc (suc n)) (start (entry index) cells) ≡ steps (four_cells true) (guarded_by rest) n (go 2 [] (told index cells (nat_lt index 4)))
two_steps rest n index cells = refl

not_below : (a b : ℕ) → b ≤ a → nat_lt a b ≡ false
not_below a b h = grind (arith)

-- what is seen of such a run is seen of one that was told that the index is out of range
pub beyond : {X : Type 0} (rest : List Instruction) (n index : ℕ) (cells : List ℕ) (seen : State → X) → 4 ≤ index
    → seen (state_of (steps (four_cells true) (guarded_by rest) (suc (suc n)) (start (entry index) cells)))
    ≡ seen (state_of (steps (four_cells true) (guarded_by rest) n (go 2 [] (told index cells false))))
beyond rest n index cells seen h =
    ap (λ c. seen (state_of c)) (two_steps rest n index cells)
    ∙ ap (λ b. seen (state_of (steps (four_cells true) (guarded_by rest) n (go 2 [] (told index cells b))))) (not_below index 4 h)
