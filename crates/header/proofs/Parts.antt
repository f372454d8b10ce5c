-- Items of one length, written one after another into a byte list.
use Rattle.std.proofs.Common.{◌≡◌, ℕ, ◌+◌, ◌*◌, ◌<◌, ◌≤◌, List, [], drop_of_length-le, ◌∷◌, ◌++◌, length, get_or, take, drop, sym, ap, ◌∙◌, mul-zero, mul-one, mul-suc, mul-add, arith, length-append}
use borrow.Rule.Slice.PartMut.{put_mid}
use Rattle.std.specs.List.{flat_map}
use Rattle.std.proofs.lemmas.List.{take_at, drop_at, drop-drop, append_assoc, append-nil, take_more, take_all, flat_map_more, length-take-le}

-- behind a front of length a, the next k bytes become ys
pub part_more : (front e ys : List ℕ) (a k : ℕ) → length front ≡ a → put_mid a k (front ++ drop a e) ys ≡ (front ++ ys) ++ drop (a + k) e
part_more front e ys a k len =
    (λ t. take_at front (drop a e) a len t ++ (ys ++ drop k (drop_at front (drop a e) a len t)))
    ∙ ap (λ z. front ++ (ys ++ z)) (drop-drop k a e)
    ∙ sym (append_assoc front ys (drop (a + k) e))

-- each f x has the length w
pub length_joined : {X : Type 0} (f : X → List ℕ) (w : ℕ) → ((x : X) → length (f x) ≡ w) → (xs : List X) → length (flat_map f xs) ≡ w * length xs
length_joined f w each [] = sym (mul-zero w)
length_joined f w each (x ∷ xs) =
    let more = mul-suc w (length xs) in
    omega (arith, length-append (f x) (flat_map f xs), length_joined f w each xs, each x)

-- items of length w, one after another over the bytes e
module _ {X : Type 0} (f : X → List ℕ) (w : ℕ) (each : (x : X) → length (f x) ≡ w) (e : List ℕ) (xs : List X) where
  items_size : (i : ℕ) → i ≤ length xs → length (flat_map f (take i xs)) ≡ w * i
  items_size i h = length_joined f w each (take i xs) ∙ ap (λ n. w * n) (length-take-le i xs h)

  pub items_none : e ≡ flat_map f (take 0 xs) ++ drop (w * 0) e
  items_none = sym (ap (λ m. drop m e) (mul-zero w))

  pub items_more : (out ys : List ℕ) (i k : ℕ) (d : X) → i < length xs → out ≡ flat_map f (take i xs) ++ drop (w * i) e → ys ≡ f (get_or xs i d) → k ≡ w → put_mid (w * i) k out ys ≡ flat_map f (take (i + 1) xs) ++ drop (w * (i + 1)) e
  items_more out ys i k d lt inv is ke =
      let on : w * i + w ≡ w * (i + 1) = omega (arith, mul-add w i 1, mul-one w) in
      (λ t. put_mid (w * i) (ke t) (inv t) (is t))
      ∙ part_more (flat_map f (take i xs)) e (f (get_or xs i d)) (w * i) w (items_size i (omega arith))
      ∙ (λ t. (flat_map_more f [] (take i xs) (get_or xs i d) ∙ ap (flat_map f) (sym (take_more xs i d lt))) t ++ drop (on t) e)

  pub items_all : (out : List ℕ) (i : ℕ) → i ≡ length xs → length e ≡ w * length xs → out ≡ flat_map f (take i xs) ++ drop (w * i) e → out ≡ flat_map f xs
  items_all out i is size inv =
      let full : length e ≤ w * length xs = omega arith in
      inv
      ∙ (λ t. flat_map f ((ap (λ n. take n xs) is ∙ take_all (length xs) xs (omega arith)) t) ++ drop (w * is t) e)
      ∙ ap (λ l. flat_map f xs ++ l) (drop_of_length-le e full)
      ∙ append-nil (flat_map f xs)
