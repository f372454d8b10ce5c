-- What conversion keeps, of programs.
use Rattle.std.proofs.Common.{◌≡◌, ℕ, ◌≤◌, Bool, true, List, [], length, sym, ap, ◌∙◌, subst, arith, lt-ltb, leb-true, nat_le, slice_index_or}
use Rattle.std.proofs.lemmas.Bool.{and_parts}
use Rattle.instructions.specs.declared.Instruction.{Instruction}
use Rattle.program.specs.declared.header.Header.{Header}
use Rattle.program.specs.Headers.{no_table, table_fits}
use Rattle.program.specs.Sound.{SoundHeader}
use Rattle.program.specs.Blocks.{Block, done}
use Rattle.machine.specs.States.{State}
use Rattle.machine.specs.Machine.{Out, fine, fault, go, length_of, land, steps}
use Rattle.machine.specs.Nested.{exec}
use Rattle.program.specs.Hold.{hold}
use Rattle.machine.specs.Most.{Price, each_step, most_of}
use Rattle.execution.proofs.Counted.{counted}
use Rattle.execution.proofs.Onward.{comes}
use Rattle.counting.specs.Counting.{sums, most_steps, mark_price}
use Rattle.counting.proofs.Sums.{sums_is}
use Rattle.groups.specs.Groups.{lengths}
use Rattle.conversion.specs.Sources.{result_by}
use Rattle.conversion.specs.OneWay.{OneWay}
use Rattle.conversion.specs.Trees.{Tree, converted}
use Rattle.simulation.specs.Simulation.{Follows, Roomy}
use Rattle.simulation.specs.Results.{FollowsRun, ResultStepsGrow, ResultFollows, ResultCountsMost}
use Rattle.simulation.proofs.Simulation.{simulates}
use Rattle.simulation.proofs.OneWay.{one_way_nested}
use Rattle.simulation.proofs.Bounds.{steps_grow, counts_most}

-- the tables of a sound header that are used have a cell
roomy : (h : Header) → SoundHeader h → Roomy h.tables h.used
roomy h sound t l =
    let n = length_of h.tables t in
    let few = sound.few in
    let fits = subst (λ used. table_fits (slice_index_or h.tables t no_table) used ≡ true) (lt-ltb t h.used l) (sound.tables t (omega arith)) in
    let e = leb-true 1 n (and_parts (nat_le 1 n) (nat_le n 1024) fits).0 in
    omega arith

module _ (S : ℕ → ℕ → Bool) (h : Header) (code : List Instruction) (tree : Tree S h code) where
  abbrev result : List Instruction
  result = result_by S h code

  abbrev block : Block Bool
  block = converted (lengths h.tables) 0 tree.block 0 done

  result_sum : (w : Price) → sums w [] 0 result ≡ hold (most_of w block)
  result_sum w = sums_is w block result tree.result

  grow : most_steps code ≤ most_steps result
  grow =
      let e = sums_is each_step tree.block code tree.row in
      let f = result_sum each_step in
      let g = steps_grow (lengths h.tables) tree.block 0 in
      omega arith

  module _ (short : most_steps result ≤ 1000000) (x : State) where
    result_comes : steps h.tables result (most_steps result) (go 0 [] x) ≡ land (exec h.tables block 0 x) (length result) []
    result_comes = let e = result_sum each_step in comes h.tables result block tree.result tree.shallow x 0 (most_steps result) (omega arith)

    source_comes : steps h.tables code (most_steps code) (go 0 [] x) ≡ land (exec h.tables tree.block 0 x) (length code) []
    source_comes =
        let e = sums_is each_step tree.block code tree.row in
        let g = grow in
        comes h.tables code tree.block tree.row tree.deep x 0 (most_steps code) (omega arith)

follows_land : (o : Out) (n : ℕ) (z : State) → Follows o z → FollowsRun (land o n []) z
follows_land (fine x) n z h = h
follows_land (fault p x) n z h = h

land_fine : (o : Out) (n : ℕ) (z : State) → land o n [] ≡ go n [] z → o ≡ fine z
land_fine (fine x) n z e = cc
land_fine (fault p x) n z e = let k : ◌≡◌ {A = ℕ} 0 1 = cc in absurd (omega arith)

pub result_steps_grow : ResultStepsGrow
result_steps_grow = grow

pub result_follows : ResultFollows
result_follows S h code x sound tree short e =
    let c = result_by S h code in
    let r = simulates h.tables h.used tree.block 0 0 x (roomy h sound) tree.fits tree.deep e in (
      r.0,
      result_comes S h code tree short x ∙ ap (λ o. land o (length c) []) r.1,
      subst (λ k. FollowsRun k r.0) (sym (source_comes S h code tree short x)) (follows_land (exec h.tables tree.block 0 x) (length code) r.0 r.2),
    )

pub result_counts_most : ResultCountsMost
result_counts_most S h code x z tree one short e =
    let c = result_by S h code in
    let way = one_way_nested S tree.block 0 tree.notes (subst (OneWay S 0) (sym tree.row) one) in
    let f = land_fine _ (length c) z (sym (result_comes S h code tree short x) ∙ e) in
    let most = λ (w : Price). counts_most w h.tables tree.block 0 0 x z way f in (
      (let a = most each_step in
          let b = result_sum S h code tree each_step in
          let u = counted z.trace in
          let v = counted x.trace in
          omega arith),
      λ cost l.
          let a = most (mark_price cost h.tables) in
          let b = result_sum S h code tree (mark_price cost h.tables) in
          omega arith,
    )
