-- What a looker-on makes of a trace, event by event.
use Rattle.std.specs.Prelude.{◌≡◌, ℕ, ◌<◌, ◌≤◌, Bool, true, List, ◌∷◌, length}
use Rattle.program.specs.declared.header.Table.{Table}
use Rattle.program.specs.Headers.{cells_of, first_cell}
use Rattle.memory.specs.declared.Access.{Access}
use Rattle.memory.specs.Description.{Description}
use Rattle.memory.specs.Laws.{Lawful}
use Rattle.machine.specs.States.{Event, reads, writes}
use Rattle.machine.specs.Machine.{length_of}
use Rattle.secrecy.specs.Alike.{LooksLike}

-- f takes in one event after another by g, which does not tell apart offsets of a hidden table
pub record Blind {X : Type 0} (tables : List Table) (hidden : ℕ → Bool) (f : List Event → X) (g : Event → X → X) : Type 0 where
  pub each : (e : Event) (t : List Event) → f (e ∷ t) ≡ g e (f t)
  pub reading : (p b i j : ℕ) (x : X) → hidden b ≡ true → i < length_of tables b → j < length_of tables b → g (reads p b i) x ≡ g (reads p b j) x
  pub writing : (p b i j : ℕ) (x : X) → hidden b ≡ true → i < length_of tables b → j < length_of tables b → g (writes p b i) x ≡ g (writes p b j) x

-- so it makes the same of traces that look alike
abbrev pub SeenSame : Type 0 → Type 0
SeenSame X =
    (tables : List Table) (hidden : ℕ → Bool) (f : List Event → X) (g : Event → X → X) (t u : List Event)
    → Blind tables hidden f g → LooksLike tables hidden t u → f t ≡ f u

-- a memory that hides, and has the cells of all tables, shows the same of any two offsets of a table
abbrev pub OffsetsHidden : Type 0
OffsetsHidden =
    (d : Description) (tables : List Table) (k : Access) (t i j : ℕ) → Lawful d → d.rules.hides ≡ true → cells_of tables ≤ length d.cells
    → i < length_of tables t → j < length_of tables t
    → d.rules.shows k (first_cell tables t) (length_of tables t) i ≡ d.rules.shows k (first_cell tables t) (length_of tables t) j
