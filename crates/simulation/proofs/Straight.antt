-- Ops that never fault, by what they do to registers and cells.
use Rattle.std.proofs.Common.{◌≡◌, ℕ, suc, ◌+◌, Bool, true, ltb, List, [], ◌∷◌, sym, refl, ap, ◌∙◌, subst}
use Rattle.instructions.specs.declared.Op.{Op}
use Rattle.instructions.specs.declared.Op.TheVariants.{Set, Pick, Load, Store}
use Rattle.program.specs.declared.header.Table.{Table}
use Rattle.program.specs.Headers.{first_cell}
use Rattle.program.specs.Blocks.{Block}
use Rattle.machine.specs.declared.visit.Choice.TheVariants.{Onward}
use Rattle.machine.specs.Words.{value_of}
use Rattle.machine.specs.States.{reads, writes, State, changed, noted, visited, with_register, with_cell}
use Rattle.machine.specs.Machine.{fine, if_not0, length_of, loads, stores, does}
use Rattle.machine.specs.Nested.{and_then, exec}
use Rattle.conversion.specs.Trees.{ops}

-- a state without its trace
pub record Words : Type 0 where
  pub registers : ℕ → ℕ
  pub cells : ℕ → ℕ

abbrev pub words_of : State → Words
words_of s = record { registers = s.registers; cells = s.cells }

-- register d gets v
abbrev pub put : ℕ → ℕ → Words → Words
put d v s = record { registers = changed s.registers d v; cells = s.cells }

-- cell c gets v
abbrev pub put_cell : ℕ → ℕ → Words → Words
put_cell c v s = record { registers = s.registers; cells = changed s.cells c v }

module _ (tables : List Table) where
  -- an op whose index is in range
  abbrev pub effect : Op → Words → Words
  effect (Set d v) s = put d (value_of v s.registers) s
  effect (Pick d a b) s = put d (if_not0 (s.registers a) (s.registers b) (s.registers d)) s
  effect (Load d a t) s = put d (s.cells (first_cell tables t + s.registers a)) s
  effect (Store d a t) s = put_cell (first_cell tables t + s.registers a) (s.registers d) s

  abbrev pub effects : List Op → Words → Words
  effects [] s = s
  effects (o ∷ os) s = effects os (effect o s)

  abbrev pub InRange : Op → Words → Type 0
  InRange (Set d v) s = Unit {0}
  InRange (Pick d a b) s = Unit {0}
  InRange (Load d a t) s = ltb (s.registers a) (length_of tables t) ≡ true
  InRange (Store d a t) s = ltb (s.registers a) (length_of tables t) ≡ true

  abbrev pub AllInRange : List Op → Words → Type 0
  AllInRange [] s = Unit {0}
  AllInRange (o ∷ os) s = InRange o s × AllInRange os (effect o s)

  effect_is : (o : Op) (q : ℕ) (s : State) → InRange o (words_of s) → (z : State) × (does tables q o s ≡ fine z) × (words_of z ≡ effect o (words_of s))
  effect_is (Set d v) q s h = (with_register d (value_of v s.registers) (visited q Onward s), refl, refl)
  effect_is (Pick d a b) q s h = (with_register d (if_not0 (s.registers a) (s.registers b) (s.registers d)) (visited q Onward s), refl, refl)
  effect_is (Load d a t) q s h =
      let c = first_cell tables t + s.registers a in (
        with_register d (s.cells c) (noted (reads q t (s.registers a)) (visited q Onward s)),
        ap (λ x. loads x q d t (s.registers a) c s) h,
        refl,
      )
  effect_is (Store d a t) q s h =
      let c = first_cell tables t + s.registers a in (
        with_cell c (s.registers d) (noted (writes q t (s.registers a)) (visited q Onward s)),
        ap (λ x. stores x q d t (s.registers a) c s) h,
        refl,
      )

  -- ops in front of a block do this, and leave the rest of it
  pub straight : (os : List Op) (k : Block Bool) (q : ℕ) (s : State) → AllInRange os (words_of s)
      → (q' : ℕ) × (z : State) × (exec tables (ops os k) q s ≡ exec tables k q' z) × (words_of z ≡ effects os (words_of s))
  straight [] k q s h = (q, s, refl, refl)
  straight (o ∷ os) k q s h =
      let x = effect_is o q s h.0 in
      let y = straight os k (suc q) x.0 (subst (AllInRange os) (sym x.2) h.1) in
      (y.0, y.1, ap (λ o'. and_then o' (exec tables (ops os k) (suc q))) x.1 ∙ y.2, y.3 ∙ ap (effects os) x.2)
