-- Two runs of a result that start the same but for what is secret look alike.
use Rattle.std.proofs.Common.{◌≡◌, ℕ, ◌<◌, ◌≤◌, Bool, true, false, cond, ltb, List, [], ◌∷◌, ◌++◌, length, refl, ap, arith}
use Rattle.std.proofs.lemmas.Bool.{ltb-true}
use Rattle.program.specs.declared.header.Table.{Table}
use Rattle.program.specs.Headers.{cells_of, first_cell}
use Rattle.memory.specs.declared.Access.{Access}
use Rattle.memory.specs.declared.Access.TheVariants.{Read, Write}
use Rattle.memory.specs.Description.{Mark, Description, Shows}
use Rattle.memory.specs.Laws.{Lawful}
use Rattle.machine.specs.declared.visit.Visit.{Visit}
use Rattle.machine.specs.States.{Event, visit, reads, writes}
use Rattle.machine.specs.Machine.{length_of, first}
use Rattle.labels.specs.Sets.{bits, secret_tables}
use Rattle.groups.specs.Groups.{lengths}
use Rattle.conversion.specs.Refusing.{hidden_by}
use Rattle.converter.proofs.Keeping.{solves, tree_of, labelled}
use Rattle.secrecy.specs.Alike.{LooksLike, Alike}
use Rattle.secrecy.specs.Alike as L
use Rattle.secrecy.specs.Converted.{wide}
use Rattle.secrecy.proofs.Public.{publics}
use Rattle.secrecy.proofs.Seen.{seen_same, offsets_hidden}
use Rattle.secrecy.proofs.Whole.{converted_runs_alike}
use Rattle.run.specs.Run.{visit_at, visits_of, marks_of}
use Rattle.calls.specs.Benches.{Seated}
use Rattle.calls.specs.Calls.{converted}
use Rattle.promises.specs.Kept.{AcceptedSource, result_run, SamePublicStart, ResultRunsAlike}
use Rattle.promises.proofs.Following.{labels, ends}

wide_false : (A : ℕ → Bool) (r : ℕ) (b : Bool) → ltb r 16 ≡ b → cond b (A r) true ≡ false → (r < 16) × (A r ≡ false)
wide_false A r true h e = (ltb-true r 16 h, e)
wide_false A r false h e = let z : ◌≡◌ {A = ℕ} 0 1 = cc in absurd (omega arith)

-- an event's visit, after those before it
abbrev visited_too : Event → List Visit → List Visit
visited_too (visit p c) l = l ++ (visit_at p c ∷ [])
visited_too (reads p b i) l = l
visited_too (writes p b i) l = l

-- an event's marks, after those before it
abbrev marked_too : List Table → Shows → Event → List Mark → List Mark
marked_too tables shows (visit p c) l = l
marked_too tables shows (reads p b i) l = l ++ shows Read (first_cell tables b) (length_of tables b) i
marked_too tables shows (writes p b i) l = l ++ shows Write (first_cell tables b) (length_of tables b) i

visits_each : (e : Event) (t : List Event) → visits_of (e ∷ t) ≡ visited_too e (visits_of t)
visits_each (visit p c) t = refl
visits_each (reads p b i) t = refl
visits_each (writes p b i) t = refl

marks_each : (tables : List Table) (shows : Shows) (e : Event) (t : List Event) → marks_of tables shows (e ∷ t) ≡ marked_too tables shows e (marks_of tables shows t)
marks_each tables shows (visit p c) t = refl
marks_each tables shows (reads p b i) t = refl
marks_each tables shows (writes p b i) t = refl

module _ (d : Description) (tables : List Table) (law : Lawful d) (small : cells_of tables ≤ length d.cells) where
  visits_same : {t u : List Event} → LooksLike tables (hidden_by d.rules.hides) t u → visits_of t ≡ visits_of u
  visits_same {t} {u} l = seen_same tables (hidden_by d.rules.hides) visits_of visited_too t u (record { each = visits_each; reading = λ p b i j x h li lj. refl; writing = λ p b i j x h li lj. refl }) l

  hidden_marks : (k : Access) (b i j : ℕ) (x : List Mark) → d.rules.hides ≡ true → i < length_of tables b → j < length_of tables b
      → x ++ d.rules.shows k (first_cell tables b) (length_of tables b) i ≡ x ++ d.rules.shows k (first_cell tables b) (length_of tables b) j
  hidden_marks k b i j x h li lj = ap (λ l. x ++ l) (offsets_hidden d tables k b i j law h small li lj)

  marks_same : {t u : List Event} → LooksLike tables (hidden_by d.rules.hides) t u → marks_of tables d.rules.shows t ≡ marks_of tables d.rules.shows u
  marks_same {t} {u} l =
      seen_same tables (hidden_by d.rules.hides) (marks_of tables d.rules.shows) (marked_too tables d.rules.shows) t u
      (record { each = marks_each tables d.rules.shows; reading = λ p b i j x h li lj. hidden_marks Read b i j x h li lj; writing = λ p b i j x h li lj. hidden_marks Write b i j x h li lj }) l

module _ {hides : Bool} (s : Seated) (ok : AcceptedSource hides s) where
  begins : (entry entry′ memory memory′ : List ℕ) → SamePublicStart s entry entry′ memory memory′
      → Alike s.header.tables (secret_tables s.header.tables) (hidden_by hides) (wide (labels s 0)) (first entry memory) (first entry′ memory′)
  begins entry entry′ memory memory′ g = record {
    registers = λ r h.
        let w = wide_false (labels s 0) r (ltb r 16) refl h in
        g.registers r w.0 (publics (bits s.header.secret_entry) (labels s 0) (solves s.header s.code ok.source).start r w.1);
    cells = g.cells;
    trace = L.LooksLike.none;
  }

pub runs_alike : ResultRunsAlike
runs_alike d s entry entry′ memory memory′ law ok small low low′ g =
    let t = tree_of s.header s.code ok.source in
    let tables = s.header.tables in
    let r = converted_runs_alike tables (secret_tables tables) (hidden_by d.rules.hides) (labels s) (lengths tables) s.header.used t.block (converted s).code
    (first entry memory) (first entry′ memory′) (result_run s entry memory) (result_run s entry′ memory′) t.fits (labelled s.header s.code ok.source d.rules.hides ok.places) t.result t.shallow ok.short
    (begins s ok entry entry′ memory memory′ g) (ends s ok entry memory low) (ends s ok entry′ memory′ low′) in
    record { visits = visits_same d tables law small r.trace; marks = marks_same d tables law small r.trace; cells = r.cells }
