-- Traces that look alike are the same to who does not tell hidden offsets apart.
use Rattle.std.proofs.Common.{◌≡◌, ℕ, zero, suc, ◌+◌, ◌<◌, ◌≤◌, Bool, List, ◌∷◌, length, sym, refl, ap, ◌∙◌, arith}
use Rattle.program.specs.declared.header.Table.{Table}
use Rattle.program.specs.Headers.{cells_of, first_cell}
use Rattle.machine.specs.States.{Event, reads, writes}
use Rattle.machine.specs.Machine.{length_of}
use Rattle.secrecy.specs.Alike.{LooksLike, none, same, hidden_read, hidden_write}
use Rattle.secrecy.specs.Seen.{Blind, SeenSame, OffsetsHidden}
use Rattle.secrecy.proofs.Apart.{tables_within}

module _ {X : Type 0} (tables : List Table) (hidden : ℕ → Bool) (f : List Event → X) (g : Event → X → X) (h : Blind tables hidden f g) where
  taken : (d e : Event) (t u : List Event) → ((x : X) → g d x ≡ g e x) → f t ≡ f u → f (d ∷ t) ≡ f (e ∷ u)
  taken d e t u s r = h.each d t ∙ (ap (g d) r ∙ (s (f u) ∙ sym (h.each e u)))

  same_to : {t u : List Event} → LooksLike tables hidden t u → f t ≡ f u
  same_to none = refl
  same_to (same e {t} {u} l) = taken e e t u (λ x. refl) (same_to l)
  same_to (hidden_read p b i j {t} {u} k li lj l) = taken (reads p b i) (reads p b j) t u (λ x. h.reading p b i j x k li lj) (same_to l)
  same_to (hidden_write p b i j {t} {u} k li lj l) = taken (writes p b i) (writes p b j) t u (λ x. h.writing p b i j x k li lj) (same_to l)

pub seen_same : {X : Type 0} → SeenSame X
seen_same tables hidden f g t u h l = same_to tables hidden f g h l

-- a table that has a cell ends within the cells
whole_within : (tables : List Table) (t i n : ℕ) → n ≡ length_of tables t → i < n → first_cell tables t + n ≤ cells_of tables
whole_within tables t i zero e h = absurd (omega arith)
whole_within tables t i (suc n) e h = let w = tables_within tables t n (omega arith) in omega arith

pub offsets_hidden : OffsetsHidden
offsets_hidden d tables k t i j law h big li lj =
    let fits : first_cell tables t + length_of tables t ≤ length d.cells = let w = whole_within tables t i (length_of tables t) refl li in omega arith in
    law.alike h k (first_cell tables t) (length_of tables t) i j (record { below = li; fits = fits }) (record { below = lj; fits = fits })
