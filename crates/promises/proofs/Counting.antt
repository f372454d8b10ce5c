-- A run of a result counts at most the most, and the most where its source has one way through.
use Rattle.std.proofs.Common.{◌≡◌, ℕ, ◌-◌, ◌<◌, ◌≤◌, Bool, List, [], ◌∷◌, map, length, get_or, refl, ap, ⊎_elim, arith, length-append}
use Rattle.std.proofs.lemmas.Bool.{cases_lt}
use Rattle.std.proofs.lemmas.List.{get_or-map, get_or_past, length_push}
use Rattle.program.specs.declared.header.Table.{Table}
use Rattle.program.specs.Headers.{no_table, cells_of, first_cell}
use Rattle.program.specs.Blocks.{done}
use Rattle.memory.specs.declared.Access.{Access}
use Rattle.memory.specs.declared.Access.TheVariants.{Read, Write}
use Rattle.memory.specs.Description.{Description}
use Rattle.memory.specs.Laws.{Lawful}
use Rattle.machine.specs.States.{Event, visit, reads, writes}
use Rattle.machine.specs.Machine.{length_of, first, start}
use Rattle.machine.specs.Most.{Price, each_step, weigh}
use Rattle.execution.proofs.Counted.{counted}
use Rattle.execution.proofs.Onward.{weighs}
use Rattle.counting.specs.Counting.{sums, most_steps, mark_price}
use Rattle.counting.proofs.Sums.{sums_is}
use Rattle.groups.specs.Groups.{lengths}
use Rattle.conversion.specs.Trees as T
use Rattle.simulation.proofs.Results.{result_counts_most}
use Rattle.secrecy.proofs.Apart.{tables_within}
use Rattle.run.specs.Run.{visit_at, visits_of, marks_of}
use Rattle.calls.specs.Benches.{Seated}
use Rattle.calls.specs.Calls.{converted}
use Rattle.promises.specs.Promises.{OneWaySource}
use Rattle.promises.specs.Kept.{AcceptedSource, result_run, RunsCounted}
use Rattle.promises.proofs.InRange.{InRange, in_range}
use Rattle.promises.proofs.Following.{labels, ends}
use Rattle.converter.proofs.Keeping.{tree_of}

-- each visit is a step
steps_weigh : (t : List Event) → length (visits_of t) ≡ weigh each_step t
steps_weigh [] = refl
steps_weigh (visit p c ∷ t) = let e = steps_weigh t in omega (arith, length_push (visits_of t) (visit_at p c))
steps_weigh (reads p b i ∷ t) = let e = steps_weigh t in omega arith
steps_weigh (writes p b i ∷ t) = let e = steps_weigh t in omega arith

module _ (d : Description) (tables : List Table) (law : Lawful d) (small : cells_of tables ≤ length d.cells) where
  -- an offset in range is in a table
  there : (b i : ℕ) → i < length_of tables b → b < length tables
  there b i h =
      ⊎_elim (λ (l : b < length tables). l)
      (λ (l : length tables ≤ b). let e : length_of tables b ≡ 0 = ap (λ (t : Table). t.length) (get_or_past tables b no_table l) in absurd (omega arith))
      (cases_lt b (length tables))

  -- what an access in range shows is as long as its price, where that is not too much
  priced : (k : Access) (b i : ℕ) → i < length_of tables b → get_or (map (λ (t : Table). d.rules.cost k t.length) tables) b 0 ≤ 1000000
      → length (d.rules.shows k (first_cell tables b) (length_of tables b) i) ≡ get_or (map (λ (t : Table). d.rules.cost k t.length) tables) b 0
  priced k b i h few =
      let e : get_or (map (λ (t : Table). d.rules.cost k t.length) tables) b 0 ≡ d.rules.cost k (length_of tables b) = get_or-map (λ (t : Table). d.rules.cost k t.length) tables b no_table 0 (there b i h) in
      let w = tables_within tables b (length_of tables b - 1) (omega arith) in
      let p = law.priced k (first_cell tables b) (length_of tables b) i (record { below = h; fits = omega arith }) in
      omega arith

  -- the marks are as many as they weigh
  pub marks_weigh : (t : List Event) → InRange tables t → weigh (mark_price d.rules.cost tables) t ≤ 1000000 → length (marks_of tables d.rules.shows t) ≡ weigh (mark_price d.rules.cost tables) t
  marks_weigh [] h few = refl
  marks_weigh (visit p c ∷ t) h few = let e = marks_weigh t h (omega arith) in omega arith
  marks_weigh (reads p b i ∷ t) h few =
      let e = marks_weigh t h.1 (omega arith) in
      let f = priced Read b i h.0 (omega arith) in
      omega (arith, length-append (marks_of tables d.rules.shows t) (d.rules.shows Read (first_cell tables b) (length_of tables b) i))
  marks_weigh (writes p b i ∷ t) h few =
      let e = marks_weigh t h.1 (omega arith) in
      let f = priced Write b i h.0 (omega arith) in
      omega (arith, length-append (marks_of tables d.rules.shows t) (d.rules.shows Write (first_cell tables b) (length_of tables b) i))

module _ {hides : Bool} (s : Seated) (ok : AcceptedSource hides s) (entry cells : List ℕ) where
  -- whatever is counted, a run counts at most the most, where that is not held
  weighs_most : (w : Price) → sums w [] 0 (converted s).code ≤ 1000000 → weigh w (result_run s entry cells).trace ≤ sums w [] 0 (converted s).code
  weighs_most w few =
      let t = tree_of s.header s.code ok.source in
      let b = T.converted (lengths s.header.tables) 0 t.block 0 done in
      let e = sums_is w b (converted s).code t.result in
      let h = weighs s.header.tables (converted s).code b t.result t.shallow (first entry cells) (most_steps (converted s).code) w in
      omega arith

  run_in_range : InRange s.header.tables (result_run s entry cells).trace
  run_in_range = in_range s.header.tables (converted s).code (most_steps (converted s).code) (start entry cells) tt

pub runs_counted : RunsCounted
runs_counted d s entry cells law ok small few low =
    let z = result_run s entry cells in
    let w = mark_price d.rules.cost s.header.tables in
    let n = steps_weigh z.trace in
    let le_steps = weighs_most s ok entry cells each_step ok.short in
    let le_marks = weighs_most s ok entry cells w few in
    let m = marks_weigh d s.header.tables law small z.trace (run_in_range s ok entry cells) (omega arith) in
    let all = λ (o : OneWaySource s). result_counts_most (labels s) s.header s.code (first entry cells) z (tree_of s.header s.code ok.source) o ok.short (ends s ok entry cells low) in
    record {
      few_steps = omega arith;
      few_marks = omega arith;
      all_steps = λ o. let a = (all o).0 in let c = counted z.trace in omega arith;
      all_marks = λ o. let a = (all o).1 d.rules.cost few in omega arith;
    }
