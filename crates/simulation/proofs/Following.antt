-- The predicated machine follows the source, wherever the mask is 1.
use Rattle.std.proofs.Common.{ℕ, suc, ◌+◌, ◌≤◌, min, Bool, true, false, List, refl, arith}
use Rattle.program.specs.declared.header.Table.{Table}
use Rattle.program.specs.Blocks.{Block, done, one, if_then, if_else, loop, depth, fin}
use Rattle.machine.specs.declared.visit.Choice.TheVariants.{Onward}
use Rattle.machine.specs.States.{State, visited}
use Rattle.machine.specs.Machine.{fine, if_not0, does}
use Rattle.machine.specs.Nested.{and_then, repeats, either, exec}
use Rattle.conversion.specs.Trees.{FitBlock}
use Rattle.simulation.proofs.Predicated.{times, predicated_op, predicated}
use Rattle.simulation.proofs.Staying.{stays}
use Rattle.simulation.proofs.Tracking.{Tracking, Holds, tracks_on, track_next, track_visited, track_end, track_either, track_repeats}
use Rattle.simulation.proofs.Arms.{track_arm, track_arms}
use Rattle.simulation.proofs.TrackedOps.{track_op}

module _ (tables : List Table) (used : ℕ) where
  holds : (b : Block Bool) (s p : ℕ) → FitBlock 16 used b → s + depth b ≤ 8 → Holds (predicated tables s b p)
  holds b s p w d z = (stays tables used b s p w d z).held

  pub track : (b : Block Bool) (s p : ℕ) → FitBlock 16 used b → s + depth b ≤ 8 → Tracking s (exec tables b p) (predicated tables s b p)
  track done s p w d = λ x y h. h
  track (one o b) s p w d =
      track_next s (does tables p o) (exec tables b (suc p)) (predicated_op tables s p o) (predicated tables s b (suc p))
      (track_op tables used s p o w.0 (omega arith)) (track b s (suc p) w.1 d) (holds b s (suc p) w.1 d)
  track (if_then true a t b) s p w d = λ x y h.
      let r = fin t (suc p) in
      tracks_on s _ _ (λ z. exec tables b (suc r) (visited r Onward z)) (predicated tables s b (suc r))
      (track_arm s a p (exec tables t (suc p)) (predicated tables (suc s) t (suc p)) x y (omega arith) h
      (track t (suc s) (suc p) w.1 (omega arith)) (stays tables used t (suc s) (suc p) w.1 (omega arith)) (x.registers a) (h.low a w.0))
      (track_visited s r (exec tables b (suc r)) _ (track b s (suc r) w.2 (omega arith))) (holds b s (suc r) w.2 (omega arith))
  track (if_then false a t b) s p w d =
      let r = fin t (suc p) in
      let pt = predicated tables s t (suc p) in
      track_next s (λ x. either (x.registers a) p (exec tables t (suc p)) fine x) _ (λ z. if_not0 (z.registers a) (pt z) z) (predicated tables s b (suc r))
      (track_either s a p (exec tables t (suc p)) fine pt (λ z. z) w.0 (track t s (suc p) w.1 (omega arith)) (λ x y h. h))
      (track_visited s r (exec tables b (suc r)) _ (track b s (suc r) w.2 (omega arith))) (holds b s (suc r) w.2 (omega arith))
  track (if_else true a t e b) s p w d = λ x y h.
      let r = fin t (suc p) in
      let r' = fin e (suc r) in
      tracks_on s _ _ (λ z. exec tables b (suc r') (visited r' Onward z)) (predicated tables s b (suc r'))
      (track_arms s a p (exec tables t (suc p)) (predicated tables (suc s) t (suc p)) x y (omega arith) h
      (track t (suc s) (suc p) w.1 (omega arith)) (stays tables used t (suc s) (suc p) w.1 (omega arith))
      r (exec tables e (suc r)) (predicated tables (suc s) e (suc r)) (track e (suc s) (suc r) w.2 (omega arith)) (stays tables used e (suc s) (suc r) w.2 (omega arith))
      (x.registers a) (h.low a w.0))
      (track_visited s r' (exec tables b (suc r')) _ (track b s (suc r') w.3 (omega arith))) (holds b s (suc r') w.3 (omega arith))
  track (if_else false a t e b) s p w d =
      let r = fin t (suc p) in
      let r' = fin e (suc r) in
      let pt = predicated tables s t (suc p) in
      let pe = predicated tables s e (suc r) in
      let F = λ (z : State). and_then (exec tables t (suc p) z) (λ v. fine (visited r Onward v)) in
      track_next s (λ x. either (x.registers a) p F (exec tables e (suc r)) x) _ (λ z. if_not0 (z.registers a) (pt z) (pe z)) (predicated tables s b (suc r'))
      (track_either s a p F (exec tables e (suc r)) pt pe w.0
      (track_next s (exec tables t (suc p)) _ pt (λ z. z) (track t s (suc p) w.1 (omega arith)) (track_end s r Onward) (λ z n. refl))
      (track e s (suc r) w.2 (omega arith)))
      (track_visited s r' (exec tables b (suc r')) _ (track b s (suc r') w.3 (omega arith))) (holds b s (suc r') w.3 (omega arith))
  track (loop a k t b) s p w d =
      let r = fin t (suc p) in
      let pt = predicated tables s t (suc p) in
      track_next s (λ x. repeats (exec tables t (suc p)) p r (min (x.registers a) k) x) (exec tables b (suc r)) (λ z. times (min (z.registers a) k) pt z) (predicated tables s b (suc r))
      (track_repeats s a k p r (exec tables t (suc p)) pt w.0 (track t s (suc p) w.1 (omega arith)) (holds t s (suc p) w.1 (omega arith)))
      (track b s (suc r) w.2 (omega arith)) (holds b s (suc r) w.2 (omega arith))
