-- Converted blocks never fault, and follow their source.
use Rattle.std.proofs.Common.{refl, ◌∙◌, arith}
use mathlib.Core.Path.{fun_ext}
use Rattle.program.specs.Blocks.{done}
use Rattle.machine.specs.States.{State}
use Rattle.machine.specs.Machine.{Out, fine, fault}
use Rattle.machine.specs.Nested.{exec}
use Rattle.simulation.specs.Simulation.{Follows, Simulates}
use Rattle.simulation.proofs.Straight.{Words, words_of}
use Rattle.simulation.proofs.Predicated.{Near}
use Rattle.simulation.proofs.Reaching.{reaches}
use Rattle.simulation.proofs.Tracking.{Tracks}
use Rattle.simulation.proofs.Following.{track}

near_same : (x : Words) → Near x x
near_same x = record { registers = λ r h. refl; cells = refl }

follows : (o : Out) (y : Words) (z : State) → Tracks 0 o y → Near (words_of z) y → Follows o z
follows (fine x) y z h n = (λ r l. n.registers r (omega arith) ∙ h.low r l, n.registers 24 (omega arith) ∙ h.mark, n.cells ∙ fun_ext h.cells)
follows (fault q x) y z h n = n.registers 24 (omega arith) ∙ h

pub simulates : Simulates
simulates tables used b p q s roomy w d e =
    let x = reaches tables used roomy b 0 p q done w (omega arith) s (words_of s) (near_same (words_of s)) in
    let y = track tables used b 0 p w (omega arith) s (words_of s) (record { low = λ r l. refl; mark = e; cells = λ c. refl; on = refl }) in
    (x.1, x.2, follows (exec tables b p s) _ x.1 y x.3)
