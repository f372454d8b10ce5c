-- The cells of a pile, and a run of an image on one.
use Rattle.std.proofs.Common.{◌≡◌, ℕ, List, length, replicate, Some, None, Ok, Option, sym, refl, subst, ◌∙◌}
use Rattle.program.specs.declared.program.Program.{Program}
use Rattle.program.specs.Programs.{code_of}
use Rattle.program.specs.Refusals.{or_else}
use Rattle.header.specs.Layout.{header_at}
use Rattle.image.specs.Images.{code_at}
use Rattle.memory.specs.Description.{Description}
use Rattle.machine.specs.declared.visit.Visit.{Visit}
use Rattle.layered.specs.declared.chosen.Chosen.{Chosen}
use Rattle.layered.specs.declared.chosen.Chosen.TheVariants.{Scan, Line}
use Rattle.layered.specs.Layers.{over as over_layer}
use Rattle.layered.specs.Leaves.{leaf_model}
use Rattle.layered.specs.Piles.{Pile, pile_model, leaf_of}
use Rattle.calls.specs.Benches.{Seated}
use Rattle.run.specs.declared.Outcome.{Outcome}
use Rattle.run.specs.Run.{refusal, Ran}
use Rattle.exports.specs.declared.running.Shape.{Shape}
use Rattle.exports.specs.Shapes.{over, pile_for}
use Rattle.exports.specs.Reading.{Read}
use Rattle.exports.specs.Running.{Run, unrun}

layer_cells : (o : Option Chosen) (d : Description) → d.cells ≡ (over_layer o d).cells
layer_cells None d = refl
layer_cells (Some Scan) d = refl
layer_cells (Some (Line exponent)) d = refl

-- no layer changes the cells
pub pile_cells : (p : Pile) → (leaf_model (leaf_of p)).cells ≡ (pile_model p).cells
pile_cells p =
    layer_cells p.below.below.below.layer _ ∙ layer_cells p.below.below.layer _ ∙ layer_cells p.below.layer _ ∙ layer_cells p.layer _

module _ (bs words : List ℕ) (s : Shape) (room : ℕ) (before : List ℕ) (p : Program) (r : Read bs p) (d : Description) (pile : d ≡ pile_for s before) (vs : List Visit) (many : length vs ≡ room) where
  pub unrun_is : unrun bs (pile_for s before) room ≡ refusal p.header.tables (code_of p) d (length vs)
  unrun_is =
      let source = sym r.source in
      let under = sym pile in
      let long = sym many in
      λ t. or_else (r.accepted t) (refusal (source t).header.tables (source t).code (under t) (long t))

  pub run_is : (entry : List ℕ) → entry ≡ over words (replicate 16 0) → (d' : Description) (vs' : List Visit) (o : Outcome) (after : List ℕ) → Ran p.header.tables (code_of p) entry d d' vs vs' (Ok o) → after ≡ over d'.cells before → Run bs words s room before after o
  run_is entry starts d' vs' o after ran cells =
      let by_source = subst (λ (x : Seated). Ran x.header.tables x.code entry d d' vs vs' (Ok o)) r.source ran in
      let by_entry = subst (λ (e : List ℕ). Ran (header_at bs).tables (code_at bs) e d d' vs vs' (Ok o)) starts by_source in
      record {
        accepted = r.accepted;
        left = d';
        unvisited = vs;
        visited = vs';
        many = many;
        ran = subst (λ (m : Description). Ran (header_at bs).tables (code_at bs) (over words (replicate 16 0)) m d' vs vs' (Ok o)) pile by_entry;
        cells = cells;
      }
