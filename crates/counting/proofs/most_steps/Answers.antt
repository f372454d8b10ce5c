use Rattle.std.proofs.Common.{◌≡◌, sym, ap, ◌∙◌, subst}
use Rattle.machine.specs.Most.{each_step}
use Rattle.program.specs.Programs.{code_of}
use Rattle.machine.proofs.Programs.{code_pairs}
use Rattle.counting.specs.Counting.{Sum, most_steps, Countable}
use Rattle.counting.proofs.Countables.{countable}
use Rattle.counting.proofs.Sums.{summed, ends_by}
use Rattle.counting.proofs.most_steps.Goals as goal

pub returns : goal.returns
returns c =
    let s = c.args.program.now in
    let e : c.most_steps_of.result ≡ most_steps (code_of s) = c.most_steps_of.ensures ∙ ap most_steps c.code.ensures in
    record {
      value = e;
      sum = subst (Sum each_step (code_of s)) (sym e) (summed each_step (code_of s) (code_pairs s));
      ends = ends_by (code_of s) (code_pairs s) e;
    }

pub most_steps_of-requires : goal.most_steps_of-requires
most_steps_of-requires c = subst Countable (sym c.code.ensures) (countable c.args.program.now)
