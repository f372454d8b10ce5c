-- What a stack holds after each of its changes.
use Rattle.std.proofs.Common.{◌≡◌, ℕ, ◌+◌, ◌-◌, ◌<◌, ◌≤◌, List, [], ◌∷◌, reverse, length, get_or, take, set, refl, sym, ap, ◌∙◌, arith, length-take}
use Rattle.std.proofs.lemmas.List.{length-reverse, reverse-append, take_all, take_more, take_more_set}
use Rattle.std.specs.List.{slice_get}
use Rattle.std.proofs.lemmas.Option.{slice_get-get_or}
use Rattle.stack.specs.Items.{items, top, below, swapped}

module _ {X : Type 0} (cells : List X) where
  pub length-items : (depth : ℕ) → depth ≤ length cells → length (items cells depth) ≡ depth
  length-items depth h = simp (length-reverse, length-take) (omega arith)

  pub items_push : (depth : ℕ) (x : X) → depth < length cells → items (set cells depth x) (depth + 1) ≡ x ∷ items cells depth
  items_push depth x h = ap reverse (take_more_set cells depth x h) ∙ reverse-append (take depth cells) (x ∷ [])

  -- the top of a stack that is not empty
  pub items_top : (depth : ℕ) (d : X) → 0 < depth → depth ≤ length cells → items cells depth ≡ get_or cells (depth - 1) d ∷ items cells (depth - 1)
  items_top depth d p h =
      let s : depth - 1 + 1 ≡ depth = omega arith in
      ap (items cells) (sym s)
      ∙ ap reverse (take_more cells (depth - 1) d (omega arith))
      ∙ reverse-append (take (depth - 1) cells) (get_or cells (depth - 1) d ∷ [])

pub items_pop : {X : Type 0} (cells : List X) (depth : ℕ) → 0 < depth → depth ≤ length cells → items cells (depth - 1) ≡ below (items cells depth)
items_pop [] depth p h = absurd (omega arith)
items_pop (x ∷ xs) depth p h = ap below (sym (items_top (x ∷ xs) depth x p h))

pub items_swap : {X : Type 0} (cells : List X) (depth : ℕ) (x : X) → 0 < depth → depth ≤ length cells → items (set cells (depth - 1) x) depth ≡ swapped x (items cells depth)
items_swap cells depth x p h =
    let s : depth - 1 + 1 ≡ depth = omega arith in
    ap (items (set cells (depth - 1) x)) (sym s)
    ∙ items_push cells (depth - 1) x (omega arith)
    ∙ ap (swapped x) (sym (items_top cells depth x p h))

-- the last of a list is the top once it is turned round
pub last_top : {X : Type 0} (xs : List X) → slice_get xs (length xs - 1) ≡ top (reverse xs)
last_top [] = refl
last_top (x ∷ xs) =
    let n = length (x ∷ xs) in
    slice_get-get_or (x ∷ xs) (n - 1) x (omega arith)
    ∙ ap top (sym (items_top (x ∷ xs) n x (omega arith) (omega arith)) ∙ ap reverse (take_all n (x ∷ xs) (omega arith)))
