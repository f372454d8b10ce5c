-- Programs that read and write by public indices only: two runs that agree on what is public do so to the end, or to
-- a fault at one place.
use Rattle.std.specs.Prelude.{◌≡◌, ℕ, ◌≤◌, Bool, true, false, List, []}
use Rattle.instructions.specs.declared.Instruction.{Instruction}
use Rattle.program.specs.declared.header.Table.{Table}
use Rattle.program.specs.Blocks.{Block, flat, depth}
use Rattle.machine.specs.declared.repeat.OpenRepeat.{OpenRepeat}
use Rattle.machine.specs.States.{Event, State}
use Rattle.machine.specs.Machine.{Conf, go, stop, land, steps}
use Rattle.machine.specs.Nested.{exec}
use Rattle.counting.specs.Counting.{most_steps}
use Rattle.secrecy.specs.Carried.{Carried}
use Rattle.secrecy.specs.Alike.{LooksLike, Alike}

-- no table is hidden
abbrev pub bare : ℕ → Bool
bare t = false

-- every register is secret
abbrev pub all_secret : ℕ → Bool
all_secret r = true

-- where no table is hidden, traces that look alike are the same
abbrev pub BareSame : Type 0
BareSame = (tables : List Table) (t u : List Event) → LooksLike tables bare t u → t ≡ u

module _ (tables : List Table) (secret B : ℕ → Bool) where
  -- two runs are at one place and agree under B, or stopped at one place and agree on cells and trace
  abbrev pub Together : Conf → Conf → Type 0
  Together (go p fs z) (go q gs w) = (p ≡ q) × (fs ≡ gs) × Alike tables secret bare B z w
  Together (go p fs z) (stop q w) = ⊥
  Together (stop p z) (go q gs w) = ⊥
  Together (stop p z) (stop q w) = (p ≡ q) × Alike tables secret bare all_secret z w

-- two runs of a block that carries A to B with no table hidden, from states that agree under A
abbrev pub RunsTogether : Type 0 → Type 0
RunsTogether Note =
    (tables : List Table) (secret : ℕ → Bool) (b : Block Note) (A B : ℕ → Bool) (p q : ℕ) (fs : List OpenRepeat) (x y : State)
    → Carried secret bare A b B → Alike tables secret bare A x y
    → Together tables secret B (land (exec tables b p x) q fs) (land (exec tables b p y) q fs)

-- and two whole runs of a program of such blocks
abbrev pub WholeRunsTogether : Type 0 → Type 0
WholeRunsTogether Note =
    (tables : List Table) (secret : ℕ → Bool) (code : List Instruction) (b : Block Note) (A B : ℕ → Bool) (x y : State)
    → flat b [] ≡ code → depth b ≤ 8 → most_steps code ≤ 1000000 → Carried secret bare A b B → Alike tables secret bare A x y
    → Together tables secret B (steps tables code (most_steps code) (go 0 [] x)) (steps tables code (most_steps code) (go 0 [] y))
