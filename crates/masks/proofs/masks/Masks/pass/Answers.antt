use Rattle.std.proofs.Common.{sym, ◌∙◌}
use Rattle.labels.specs.Sets.{bits}
use Rattle.masks.proofs.Counting.{stays}
use Rattle.masks.proofs.masks.Masks.pass.Goals as goal

pub returns-in_default-pass : goal.returns-in_default-pass
returns-in_default-pass c =
    let a = c.args in
    c.in_default-pass.ensures.after ∙ sym (stays _ (bits a.secret) a.self.now.openings a.place a.instruction (sym c.in_default-pass.ensures.answer) c.requires)
