-- Two runs that agree on what is public, and what a looker-on sees of them.
use Rattle.std.specs.Prelude.{◌≡◌, ℕ, ◌+◌, ◌<◌, Bool, true, false, List, [], ◌∷◌}
use Rattle.program.specs.declared.header.Table.{Table}
use Rattle.program.specs.Headers.{first_cell}
use Rattle.program.specs.Blocks.{Block}
use Rattle.machine.specs.States.{Event, reads, writes, State}
use Rattle.machine.specs.Machine.{fine, length_of}
use Rattle.machine.specs.Nested.{exec}
use Rattle.secrecy.specs.Carried.{Carried}

module _ (tables : List Table) (hidden : ℕ → Bool) where
  -- the traces are the same but for the offsets of accesses to hidden tables
  pub data LooksLike : List Event → List Event → Type 0 where
    none : LooksLike [] []
    same : (e : Event) {t u : List Event} → LooksLike t u → LooksLike (e ∷ t) (e ∷ u)
    hidden_read : (p b i j : ℕ) {t u : List Event} → hidden b ≡ true → i < length_of tables b → j < length_of tables b → LooksLike t u → LooksLike (reads p b i ∷ t) (reads p b j ∷ u)
    hidden_write : (p b i j : ℕ) {t u : List Event} → hidden b ≡ true → i < length_of tables b → j < length_of tables b → LooksLike t u → LooksLike (writes p b i ∷ t) (writes p b j ∷ u)

module _ (tables : List Table) (secret hidden : ℕ → Bool) where
  -- the registers outside A, the cells of public tables, and what is seen of the traces
  pub record Alike (A : ℕ → Bool) (x y : State) : Type 0 where
    pub registers : (r : ℕ) → A r ≡ false → x.registers r ≡ y.registers r
    pub cells : (t i : ℕ) → secret t ≡ false → i < length_of tables t → x.cells (first_cell tables t + i) ≡ y.cells (first_cell tables t + i)
    pub trace : LooksLike tables hidden x.trace y.trace

-- two runs of a block that carries A to B, from states that agree under A, agree under B where both come to the end
abbrev pub RunsAlike : Type 0 → Type 0
RunsAlike Note =
    (tables : List Table) (secret hidden : ℕ → Bool) (b : Block Note) (A B : ℕ → Bool) (p : ℕ) (x y z w : State)
    → Carried secret hidden A b B → Alike tables secret hidden A x y
    → exec tables b p x ≡ fine z → exec tables b p y ≡ fine w → Alike tables secret hidden B z w
