use Rattle.std.proofs.Common.{◌∷◌, ◌++◌, Some, codes, sym, ap, ◌∙◌, arith}
use Rattle.std.proofs.lemmas.Str.Pattern.{split_parts, split_text_parts}
use Rattle.cases.proofs.case.Case.parse.Goals as goal

pub returns : goal.returns
returns c =
    let first = c.in_ok-before in
    let second = c.in_ok-kind in
    let third = c.in_ok-id in
    let arrow = split_text_parts (codes " -> ") c.args.line.now (Some (first.before, first.expected)) first.ensures.cases in
    let kind = (split_parts 32 first.before.now (Some (second.kind, second.rest)) second.ensures.cases (omega arith)).0 in
    let id = (split_parts 32 second.rest.now (Some (third.id, third.given)) third.ensures.cases (omega arith)).0 in
    sym (arrow ∙ ap (λ b. b ++ (codes " -> " ++ first.expected.now)) (kind ∙ ap (λ r. second.kind.now ++ (32 ∷ r)) id))
