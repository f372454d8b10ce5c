-- The steps of a pass over the lines.
use Rattle.std.proofs.Common.{◌≡◌, ℕ, ◌+◌, ◌<◌, Bool, true, false, eqb, List, length, get_or, drop, Some, None, Option, MatchOption, is_some, Bor, ap, sym, subst, ◌∙◌, arith}
use Rattle.std.proofs.lemmas.List.{at_drop_more}
use Rattle.std.proofs.lemmas.Str.Pattern.{starts_text}
use Rattle.std.specs.List.{starts_with}
use Rattle.std.specs.Str.Pattern.{StripsPrefix, FindsTextPrefix}
use Rattle.std.specs.Str.{IsCharBoundary}
use Rattle.blocks.specs.Counts.{closed_at, open_after, blocks_among}

pub stripped : (r : Option (Bor (List ℕ))) (s n : List ℕ) → MatchOption r (FindsTextPrefix n s None) (λ x. StripsPrefix (FindsTextPrefix n) s x.now) → is_some r ≡ starts_with eqb s n
stripped None s n h = starts_text false n s h
stripped (Some x) s n h = starts_text true n s (h.0, h.1, subst (IsCharBoundary s) (sym h.1.0) h.1.2)

pub blocks_more : (head : List ℕ) (inside next : Bool) (ls : List (List ℕ)) (k m : ℕ) (x : List ℕ) (n total : ℕ) → k < length ls → x ≡ get_or ls k x → next ≡ open_after head inside x → m ≡ k + 1 → n + blocks_among head inside (drop k ls) ≡ total
    → (n + closed_at head inside x) + blocks_among head next (drop m ls) ≡ total
blocks_more head inside next ls k m x n total lt is after one inv =
    let step : blocks_among head inside (drop k ls) ≡ closed_at head inside (get_or ls k x) + blocks_among head (open_after head inside (get_or ls k x)) (drop (k + 1) ls) = at_drop_more (blocks_among head inside) ls k x lt in
    let there : closed_at head inside (get_or ls k x) + blocks_among head (open_after head inside (get_or ls k x)) (drop (k + 1) ls) ≡ closed_at head inside x + blocks_among head (open_after head inside x) (drop (k + 1) ls) = ap (λ v. closed_at head inside v + blocks_among head (open_after head inside v) (drop (k + 1) ls)) (sym is) in
    let rest : blocks_among head next (drop m ls) ≡ blocks_among head (open_after head inside x) (drop (k + 1) ls) = λ t. blocks_among head (after t) (drop (one t) ls) in
    omega (arith, step ∙ there, rest, inv)
