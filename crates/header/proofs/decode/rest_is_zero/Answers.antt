use Rattle.std.proofs.Common.{◌≡◌, ℕ, ◌<◌, Bool, true, false, ◌≢◌, List, length, drop, MatchBool, sym, ◌∙◌, arith, rules, length-drop, get_or-drop}
use Rattle.std.specs.List.{AllWithin, HoldsAt}
use Rattle.std.proofs.lemmas.Iterator.{cases_from_all, YieldsList-from_slice}
use Rattle.std.proofs.lemmas.List.{take_all}
use Rattle.std.proofs.lemmas.Bool.{eq-eqb, ne_eqb}
use borrow.Author.Tests.{tests}
use Rattle.program.specs.Firsts.{all_below}
use Rattle.program.proofs.Firsts.{all_false, all_true}
use Rattle.header.specs.Layout.{zero_from40}
use Rattle.header.proofs.decode.rest_is_zero.Goals as goal

-- whether each byte from 40 on is zero
zeros : (bs : List ℕ) (r : Bool) → length bs ≡ 64 → MatchBool r (AllWithin (λ x. x ≡ 0) (drop 40 bs) 0 (length (drop 40 bs))) ((k : ℕ) × (k < length (drop 40 bs)) × HoldsAt (λ x. x ≢ 0) (drop 40 bs) k) → r ≡ all_below (zero_from40 bs) 24
zeros bs true long h =
    sym (all_true (zero_from40 bs) 24 (λ k l. eq-eqb _ _ (sym (get_or-drop 40 bs k 0) ∙ h k 0 (omega arith) (omega (arith, length-drop 40 bs)))))
zeros bs false long h =
    sym (all_false (zero_from40 bs) 24 h.0 (omega (arith, length-drop 40 bs, h.1)) (ne_eqb _ _ (λ e. h.2 0 (get_or-drop 40 bs h.0 0 ∙ e))))

pub returns : goal.returns
returns c =
    let bs = c.args.bytes.now in
    let items : c.iter.result.rest.now ≡ drop 40 bs = c.iter.ensures.rest ∙ take_all 24 (drop 40 bs) (omega (arith, length-drop 40 bs)) in
    zeros bs c.all.result c.told-bytes
    (cases_from_all _ _ _ (λ x. x ≡ 0) (λ x. x ≢ 0) c.all.ensures.ran (YieldsList-from_slice (drop 40 bs) items)
    (λ x q k. search (rules, tests)) (λ x q k. search (rules, tests)))
