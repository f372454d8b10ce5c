-- Two benches that agree on what is public.
use Rattle.std.proofs.Common.{◌≡◌, ℕ, ◌+◌, ◌<◌, false, List, length, set, Some, None, Option, is_none, sym, ap, ◌∙◌}
use Rattle.memory.specs.Description.{Mark, Rules}
use Rattle.machine.specs.States.{held}
use Rattle.machine.specs.Machine.{length_of}
use Rattle.program.specs.Headers.{first_cell}
use Rattle.labels.specs.Sets.{bits, secret_tables}
use Rattle.secrecy.proofs.Apart.{tables_apart}
use Rattle.calls.specs.declared.Call.{Call}
use Rattle.calls.specs.declared.Ending.{Ending}
use Rattle.calls.specs.Benches.{Seated, Bench, bench}
use Rattle.calls.specs.Calls.{leaves, replies, visits}
use Rattle.promises.specs.Promises.{tells}
use Rattle.promises.specs.Kept.{SamePublicStart}
use Rattle.promises.proofs.BothSet.{set_both}

-- what the two have in common
pub record Shared : Type 0 where
  pub rules : Rules
  pub seen : List Mark
  pub seated : Option Seated

-- what each has of its own
pub record Own : Type 0 where
  pub cells : List ℕ
  pub entry : List ℕ
  pub last : Option Ending

abbrev pub own : List ℕ → List ℕ → Option Ending → Own
own cells entry last = record { cells = cells; entry = entry; last = last }

abbrev pub of : Shared → Own → Bench
of a o = bench (record { cells = o.cells; seen = a.seen; rules = a.rules }) a.seated o.entry o.last

abbrev pub sees : Shared → List Mark → Shared
sees a seen = record { rules = a.rules; seen = seen; seated = a.seated }

abbrev pub sits : Shared → Seated → Shared
sits a s = record { rules = a.rules; seen = a.seen; seated = Some s }

-- what is public to the program seated; before one is, all of it
abbrev pub Public : Option Seated → Own → Own → Type 0
Public None o p = (o.cells ≡ p.cells) × (o.entry ≡ p.entry)
Public (Some s) o p = SamePublicStart s o.entry p.entry o.cells p.cells

pub record Agree (a : Shared) (o p : Own) : Type 0 where
  pub size : length o.cells ≡ length p.cells
  pub lasts : is_none o.last ≡ is_none p.last
  pub public : Public a.seated o p

-- two accepted calls leave two that agree again, and show the same
pub record Next (x y : Call) (a : Shared) (o p : Own) : Type 0 where
  pub then : Shared
  pub mine : Own
  pub other : Own
  pub one : leaves x (of a o) ≡ of then mine
  pub two : leaves y (of a p) ≡ of then other
  pub agree : Agree then mine other
  pub visits : visits x (of a o) ≡ visits y (of a p)
  pub reply : tells x ≡ false → replies x (of a o) ≡ replies y (of a p)

-- cell i of table t is set, to the same word where the table is public
pub same_put : (s : Seated) (entry entry′ memory memory′ : List ℕ) (t i v w : ℕ) → length memory ≡ length memory′ → i < length_of s.header.tables t → (secret_tables s.header.tables t ≡ false → v ≡ w)
    → SamePublicStart s entry entry′ memory memory′ → SamePublicStart s entry entry′ (set memory (first_cell s.header.tables t + i) v) (set memory′ (first_cell s.header.tables t + i) w)
same_put s entry entry′ memory memory′ t i v w n hi h g =
    let ts = s.header.tables in
    record {
      registers = g.registers;
      cells = λ u j e hj.
          set_both memory memory′ (first_cell ts t + i) v w (first_cell ts u + j) n
          (λ q. h (ap (secret_tables ts) (tables_apart ts t u i j hi hj (sym q)) ∙ e)) (g.cells u j e hj);
    }

-- entry register r is set, to the same word where it is public
pub same_arg : (s : Seated) (entry entry′ memory memory′ : List ℕ) (r v w : ℕ) → length entry ≡ length entry′ → (bits s.header.secret_entry r ≡ false → v ≡ w)
    → SamePublicStart s entry entry′ memory memory′ → SamePublicStart s (set entry r v) (set entry′ r w) memory memory′
same_arg s entry entry′ memory memory′ r v w n h g = record {
  registers = λ k hk e. set_both entry entry′ r v w k n (λ q. h (ap (bits s.header.secret_entry) (sym q) ∙ e)) (g.registers k hk e);
  cells = g.cells;
}

-- what is the same is public whatever the program says
pub all_same : (s : Seated) (o p : Own) → Public None o p → Public (Some s) o p
all_same s o p g = record {
  registers = λ r hr e. ap (λ l. held l r) g.1;
  cells = λ t i e hi. ap (λ l. held l (first_cell s.header.tables t + i)) g.0;
}
