-- A text, one line more at a time.
use Rattle.std.proofs.Common.{◌≡◌, ℕ, ◌+◌, ◌<◌, ◌≤◌, List, [], ◌∷◌, ◌++◌, length, get_or, drop, Some, None, Ok, Err, Option, Result, sym, ap, ◌∙◌, append-nil, append_assoc, add-one}
use Rattle.std.proofs.lemmas.List.{drop_all}
use Rattle.std.proofs.Math.Seq.{drop-cons}
use Rattle.script.specs.declared.unread.Unread.{Unread}
use Rattle.script.specs.Orders.{Asked}
use Rattle.script.specs.Scripts.{Asking, asking, Told, tell, line_asks, with_line, told_from}

-- lines that were read before
abbrev pub behind : List Asking → Told → Told
behind before later = tell (before ++ later.lines) later.stop

-- what was read so far, and what comes of the lines from number i on, counted from 0
abbrev pub whole : List (List ℕ) → ℕ → List Asking → Told
whole lines i before = behind before (told_from (i + 1) (drop i lines))

module _ (lines : List (List ℕ)) (i : ℕ) (before : List Asking) where
  module _ (line : List ℕ) (below : i < length lines) (here : line ≡ get_or lines i line) where
    next : told_from (i + 1) (drop i lines) ≡ with_line (i + 1) line (line_asks line) (told_from (i + 1 + 1) (drop (i + 1) lines))
    next =
        ap (told_from (i + 1)) (drop-cons lines i line below ∙ (λ t. sym here t ∷ drop (sym (add-one i) t) lines))
        ∙ ap (λ n. with_line (i + 1) line (line_asks line) (told_from n (drop (i + 1) lines))) (sym (add-one (i + 1)))

    one_more : (r : Option (Result Asked Unread)) → r ≡ line_asks line → whole lines i before ≡ behind before (with_line (i + 1) line r (told_from (i + 1 + 1) (drop (i + 1) lines)))
    one_more r e = ap (behind before) next ∙ ap (λ x. behind before (with_line (i + 1) line x (told_from (i + 1 + 1) (drop (i + 1) lines)))) (sym e)

    pub line_skipped : None ≡ line_asks line → whole lines (i + 1) before ≡ whole lines i before
    line_skipped e = sym (one_more None e)

    pub line_read : (a : Asked) → Some (Ok a) ≡ line_asks line → whole lines (i + 1) (before ++ asking (i + 1) line a ∷ []) ≡ whole lines i before
    line_read a e =
        let later = told_from (i + 1 + 1) (drop (i + 1) lines) in
        ap (λ l. tell l later.stop) (append_assoc before (asking (i + 1) line a ∷ []) later.lines) ∙ sym (one_more (Some (Ok a)) e)

    pub line_stops : (why : Unread) → Some (Err why) ≡ line_asks line → tell before (Some (record { line = i + 1; why = why })) ≡ whole lines i before
    line_stops why e = ap (λ l. tell l (Some (record { line = i + 1; why = why }))) (sym (append-nil before)) ∙ sym (one_more (Some (Err why)) e)

  pub lines_over : length lines ≤ i → tell before None ≡ whole lines i before
  lines_over over = ap (λ l. tell l None) (sym (append-nil before)) ∙ ap (λ ls. behind before (told_from (i + 1) ls)) (sym (drop_all i lines over))
