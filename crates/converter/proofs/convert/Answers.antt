-- Each goal has a context of its own, so each names its lemmas again.
use Rattle.std.proofs.Common.{◌++◌, length, take, drop, vec_items, sym, refl, ap, ◌∙◌, subst, arith}
use Rattle.std.proofs.lemmas.List.{take_at}
use Rattle.program.specs.Sound.{SoundList}
use Rattle.program.specs.Programs.{code_of}
use Rattle.converter.specs.Converting.{result_of, result_header}
use Rattle.converter.proofs.Results.{source_there, sound_list, straight}
use Rattle.converter.proofs.Keeping.{keeps, of_any_maker}
use Rattle.converter.proofs.convert.Goals as goal

pub new-requires-clause-list : goal.new-requires-clause-list
new-requires-clause-list c =
    let m = c.args.source.now in
    let w = c.as_slice-code.ensures.value ∙ c.in-Ok.ensures.result in
    let n = length c.as_slice-code.result.now in
    let kind = source_there m.header.kind _ c.in-Ok.ensures.answer in
    let rest = drop n (vec_items c.args.list) in
    subst (λ h. SoundList (result_header h n) (vec_items c.fill.new.list)) (sym c.header.ensures)
    (sound_list m kind n (vec_items c.fill.new.list) rest (ap length w) (c.fill.ensures ∙ ap (λ l. l ++ rest) w))

pub returns-clause-straight : goal.returns-clause-straight
returns-clause-straight c =
    let m = c.args.source.now in
    let w = c.as_slice-code.ensures.value ∙ c.in-Ok.ensures.result in
    let n = ap length w in
    let kind = source_there m.header.kind _ c.in-Ok.ensures.answer in
    let before = vec_items c.args.list in
    let result = result_of m.header (code_of m) in
    let header = c.new.ensures.header ∙ (λ t. result_header (c.header.ensures t) (n t)) in
    let list = ap vec_items c.new.ensures.list ∙ c.fill.ensures ∙ (λ t. w t ++ drop (n t) before) in
    let code = (λ t. take (header t).count (list t)) ∙ take_at result (drop (length result) before) (length result) refl in
    straight m kind c.new.result code (ap (λ h. h.kind) header) (omega (arith, n, ap length c.as_slice-code.ensures.value, c.as_slice-code.ensures.few))

pub returns-clause-keeps : goal.returns-clause-keeps
returns-clause-keeps c =
    let m = c.args.source.now in
    let w = c.as_slice-code.ensures.value ∙ c.in-Ok.ensures.result in
    let n = ap length w in
    let kind = source_there m.header.kind _ c.in-Ok.ensures.answer in
    let before = vec_items c.args.list in
    let result = result_of m.header (code_of m) in
    let header = c.new.ensures.header ∙ (λ t. result_header (c.header.ensures t) (n t)) in
    let list = ap vec_items c.new.ensures.list ∙ c.fill.ensures ∙ (λ t. w t ++ drop (n t) before) in
    let code = (λ t. take (header t).count (list t)) ∙ take_at result (drop (length result) before) (length result) refl in
    keeps m kind c.args.hides _ c.in-Ok.ensures.answer c.new.result code

pub returns-clause-any : goal.returns-clause-any
returns-clause-any c = of_any_maker

pub returns-in-Err-clause-any : goal.returns-in-Err-clause-any
returns-in-Err-clause-any c = of_any_maker
