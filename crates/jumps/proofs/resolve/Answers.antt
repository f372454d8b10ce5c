use Rattle.std.proofs.Common.{◌≡◌, ◌≤◌, ◌++◌, length, ap, ◌∙◌, arith, rules}
use Rattle.std.proofs.lemmas.List.{append-nil, drop_all}
use Rattle.program.specs.Programs.{code_of}
use Rattle.machine.proofs.Programs.{code_long, code_short, code_pairs}
use Rattle.jumps.proofs.Resolving.{pass_none, pass_turn, pass_all}
use Rattle.jumps.proofs.resolve.Goals as goal

pub loop-place-init : goal.loop-place-init
loop-place-init c =
    let code = code_of c.args.program.now in
    let rest = c.into_iter-place-iterator.result.iter.iter.rest.now in
    let e : rest ≡ code = cc in
    let past : length code ≤ length rest = omega (arith, ap length e) in
    record {
      count = cc;
      front = ap (λ l. rest ++ l) (drop_all (length rest) code past) ∙ (append-nil rest ∙ e);
      passed = pass_none code _ _ _ (ap length e) c.new-closers.ensures (search rules);
    }

pub loop-place-preserved : goal.loop-place-preserved
loop-place-preserved c =
    let s = c.args.program.now in
    let step = c.in-Some.ensures.steps in
    let short : length (code_of s) ≤ 3000 = omega (arith, code_long s, code_short s) in
    let place : c.in-Some.place ≡ length c.next.new.self.iter.iter.rest.now = omega (arith, step.1.1, c.loop-place.invariant.count) in
    let l = c.loop-place.invariant in
    let t = pass_turn (code_of s) (code_pairs s) short _ _ l.front step.1.0 place l.passed c.note.array_long c.note.ensures in
    record { count = step.0 ∙ l.count; front = t.0; passed = t.1 }

pub returns : goal.returns
returns c = pass_all (code_of c.args.program.now) (omega (arith, c.in-None.ensures.steps.1.0)) c.loop-place.invariant.passed
