use Rattle.std.proofs.Common.{sym, ap, ◌∙◌, subst}
use Rattle.labels.specs.Kinds.{secrecy}
use Rattle.labels.specs.Rules.{Smallest}
use Rattle.labels.specs.Passes.{Rising}
use Rattle.labels.specs.Sets.{bits, sets, secret_tables}
use Rattle.labels.proofs.Plain.{plain}
use Rattle.labels.proofs.Solving.{rising, reached}
use Rattle.plan.proofs.plan.settle.Goals as goal

pub loop-preserved : goal.loop-preserved
loop-preserved c =
    let h = c.args.header.now in
    let code = c.args.code.now in
    subst (Rising secrecy (secret_tables h.tables) (bits h.secret_entry) code) (sym c.pass_over.ensures.sets)
    (rising secrecy plain (secret_tables h.tables) (bits h.secret_entry) code (sets c.loop.list) c.loop.invariant)

pub loop-smaller : goal.loop-smaller
loop-smaller c = c.pass_over.ensures.grew.less c.loop-test.true

pub returns : goal.returns
returns c =
    let h = c.args.header.now in
    let code = c.args.code.now in
    let same = c.pass_over.ensures.grew.same c.loop-test.false in
    subst (λ l. Smallest secrecy (secret_tables h.tables) (bits h.secret_entry) code (sets l)) (sym same)
    (reached secrecy plain (secret_tables h.tables) (bits h.secret_entry) code (sets c.loop.list) c.loop.invariant (sym c.pass_over.ensures.sets ∙ ap sets same))
