use Rattle.std.proofs.Common.{◌<◌, not, eqb, get_or, set, sym, refl, subst}
use Rattle.labels.specs.Sets.{Grew}
use Rattle.labels.proofs.Rows.{sets-raised, grew_raise}
use Rattle.plan.proofs.flow.raise.Goals as goal

pub returns : goal.returns
returns c =
    let l = c.args.list.now in
    let q = c.args.place in
    let e = c.joined-new.ensures.value in
    record {
      sets = sets-raised l q c.joined-new.result _ c.requires c.joined-new.ensures.set;
      grew = subst (λ v. Grew (not (eqb v (get_or l q 0))) l (set l q v)) (sym e) (grew_raise l q c.args.set _ c.requires (subst (λ v. v < 65536) e c.joined-new.type_inv) refl);
    }
