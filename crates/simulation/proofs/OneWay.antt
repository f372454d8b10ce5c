-- One-way code is one-way blocks, which become ops alone.
use Rattle.std.proofs.Common.{ℕ, suc, ◌+◌, Bool, true, false, List, [], ◌∷◌, sym, ◌∙◌, true≢false}
use Rattle.instructions.specs.declared.Op.{Op}
use Rattle.instructions.specs.declared.Instruction.{Instruction}
use Rattle.instructions.specs.declared.Instruction.TheVariants.{Else, End}
use Rattle.program.specs.Blocks.{Block, done, one, if_then, if_else, loop, flat, fin}
use Rattle.groups.specs.Groups.{mask_at, op_group, if_group, else_group}
use Rattle.conversion.specs.OneWay.{OneWay}
use Rattle.conversion.specs.Trees.{Noted, ops, converted}
use Rattle.simulation.specs.OneWay.{OneWayBlock, OpsAlone, OneWayNested, OneWayOps}

-- a block in front of more code
one_way : (S : ℕ → ℕ → Bool) (b : Block Bool) (p : ℕ) (is : List Instruction) → Noted S b p → OneWay S p (flat b is) → OneWayBlock b × OneWay S (fin b p) is
one_way S done p is n h = (tt, h)
one_way S (one op b) p is n h = one_way S b (suc p) is n h
one_way S (if_then secret a t b) p is n h =
    let x = one_way S t (suc p) (End ∷ flat b is) n.1 h.1 in
    let y = one_way S b (suc (fin t (suc p))) is n.2 x.1 in
    ((sym n.0 ∙ h.0, x.0, y.0), y.1)
one_way S (if_else secret a t e b) p is n h =
    let q = fin t (suc p) in
    let x = one_way S t (suc p) (Else ∷ flat e (End ∷ flat b is)) n.1 h.1 in
    let y = one_way S e (suc q) (End ∷ flat b is) n.2 x.1 in
    let z = one_way S b (suc (fin e (suc q))) is n.3 y.1 in
    ((sym n.0 ∙ h.0, x.0, y.0, z.0), z.1)
one_way S (loop a k t b) p is n h = elim h [ ]

pub one_way_nested : OneWayNested
one_way_nested S b p n h = (one_way S b p [] n h).0

alone_ops : (os : List Op) (k : Block Bool) → OpsAlone k → OpsAlone (ops os k)
alone_ops [] k h = h
alone_ops (o ∷ os) k h = alone_ops os k h

module _ (long : ℕ → ℕ) where
  alone : (b : Block Bool) (s p : ℕ) (k : Block Bool) → OneWayBlock b → OpsAlone k → OpsAlone (converted long s b p k)
  alone done s p k m h = h
  alone (one op b) s p k m h = alone_ops (op_group long (mask_at s) p op) _ (alone b s (suc p) k m h)
  alone (if_then true a t b) s p k m h =
      let kb = converted long s b (suc (fin t (suc p))) k in
      alone_ops (if_group (mask_at s) (16 + s) a) (converted long (suc s) t (suc p) kb) (alone t (suc s) (suc p) kb m.1 (alone b s (suc (fin t (suc p))) k m.2 h))
  alone (if_then false a t b) s p k m h = absurd (true≢false (sym m.0))
  alone (if_else true a t e b) s p k m h =
      let q = fin t (suc p) in
      let kb = converted long s b (suc (fin e (suc q))) k in
      let ke = converted long (suc s) e (suc q) kb in
      let ko = ops (else_group (mask_at s) (16 + s)) ke in
      alone_ops (if_group (mask_at s) (16 + s) a) (converted long (suc s) t (suc p) ko)
      (alone t (suc s) (suc p) ko m.1
      (alone_ops (else_group (mask_at s) (16 + s)) ke (alone e (suc s) (suc q) kb m.2 (alone b s (suc (fin e (suc q))) k m.3 h))))
  alone (if_else false a t e b) s p k m h = absurd (true≢false (sym m.0))
  alone (loop a n t b) s p k m h = elim m [ ]

pub one_way_ops : OneWayOps
one_way_ops long b p h = alone long b 0 p done h tt
