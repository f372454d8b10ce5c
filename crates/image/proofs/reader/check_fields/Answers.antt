use Rattle.std.proofs.Common.{◌≡◌, ℕ, true, false, List, [], length, get_or, Some, sym, ap, ◌∙◌, arith, rules}
use Rattle.std.proofs.lemmas.Iterator.{IsFirst-from_position, YieldsList-from_slice}
use borrow.Author.Tests.{tests}
use Rattle.program.specs.declared.refusal.Reason.TheVariants.{BadField}
use Rattle.program.proofs.Firsts.{failing_at, failing_none}
use Rattle.fields.specs.Fields.{fields_at}
use Rattle.fields.specs.Rows.{admitted}
use Rattle.image.proofs.reader.check_fields.Goals as goal

pub returns-in-Some : goal.returns-in-Some
returns-in-Some c =
    let code = c.args.code.now in
    let good = λ (bytes : List ℕ). admitted c.args.limits (fields_at bytes 0) in
    let first = IsFirst-from_position _ _ _ (λ bytes. good bytes ≡ false) (λ bytes. good bytes ≡ true) c.in-Some.ensures.ran (YieldsList-from_slice code c.iter.ensures.rest) (λ x q k. search (rules, tests)) (λ x q k. search (rules, tests)) in
    ap (λ e. Some e) c.at.ensures
    ∙ sym (failing_at BadField (λ p. good (get_or code p [])) 0 (length code) c.in-Some.place (omega arith) (omega (arith, first.0)) (λ k _ l. first.2 k [] (omega arith) l) (first.1 []))

pub returns-in-None : goal.returns-in-None
returns-in-None c =
    let code = c.args.code.now in
    let good = λ (bytes : List ℕ). admitted c.args.limits (fields_at bytes 0) in
    let all = IsFirst-from_position _ _ _ (λ bytes. good bytes ≡ false) (λ bytes. good bytes ≡ true) c.in-None.ensures.ran (YieldsList-from_slice code c.iter.ensures.rest) (λ x q k. search (rules, tests)) (λ x q k. search (rules, tests)) in
    sym (failing_none BadField (λ p. good (get_or code p [])) 0 (length code) (λ k _ l. all k [] (omega arith) (omega arith)))
