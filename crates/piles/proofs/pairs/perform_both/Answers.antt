use Rattle.piles.proofs.Alike.{moved, leaves_same, leaves_hidden}
use Rattle.piles.proofs.pairs.perform_both.Goals as goal

pub returns : goal.returns
returns g c =
    let a = c.args in
    let p = c.perform.ensures.after in
    let q = c.perform-2.ensures.after in
    record {
      one = p;
      other = q;
      same = λ s e. moved p q (leaves_same s a.first a.second e);
      hidden = λ s h w. moved p q (leaves_hidden s (g.met.M.Memory.lawful a.one.now) h a.first a.second w);
    }
