-- The first words of a function, as a list.
use Rattle.std.proofs.Common.{◌≡◌, ℕ, zero, suc, ◌+◌, ◌<◌, ◌≤◌, List, [], ◌∷◌, length, get_or, take, refl, ap, ◌∙◌, ap₂, arith}
use Rattle.std.proofs.Math.Seq.{take-length}
use Rattle.machine.specs.States.{held}
use Rattle.calls.specs.Benches.{words_from, words}

pub words_same : (n i : ℕ) (f g : ℕ → ℕ) → ((k : ℕ) → k < i + n → f k ≡ g k) → words_from i n f ≡ words_from i n g
words_same zero i f g h = refl
words_same (suc n) i f g h = ap₂ (λ x xs. x ∷ xs) (h i (omega arith)) (words_same n (suc i) f g (λ k l. h k (omega arith)))

pub words_length : (n i : ℕ) (f : ℕ → ℕ) → length (words_from i n f) ≡ n
words_length zero i f = refl
words_length (suc n) i f = ap suc (words_length n (suc i) f)

pub words_held : (n i : ℕ) (f : ℕ → ℕ) (k : ℕ) → k < n → held (words_from i n f) k ≡ f (i + k)
words_held zero i f k h = absurd (omega arith)
words_held (suc n) i f zero h = ap f (omega arith)
words_held (suc n) i f (suc k) h = let e : suc i + k ≡ i + suc k = omega arith in words_held n (suc i) f k (omega arith) ∙ ap f e

front_from : (f : ℕ → ℕ) (i n : ℕ) (xs : List ℕ) → n ≤ length xs → ((k : ℕ) → f (i + k) ≡ get_or xs k 0) → words_from i n f ≡ take n xs
front_from f i zero xs h e = refl
front_from f i (suc n) [] h e = absurd (omega arith)
front_from f i (suc n) (x ∷ xs) h e =
    let here : f i ≡ x = ap f (let z : i ≡ i + 0 = omega arith in z) ∙ e 0 in
    let later : words_from (suc i) n f ≡ take n xs = front_from f (suc i) n xs (omega arith) (λ k. ap f (let z : suc i + k ≡ i + suc k = omega arith in z) ∙ e (suc k)) in
    λ t. here t ∷ later t

-- the first n words of a list
pub words_front : (n : ℕ) (xs : List ℕ) → n ≤ length xs → words n (held xs) ≡ take n xs
words_front n xs h = front_from (held xs) 0 n xs h (λ k. ap (held xs) (let z : 0 + k ≡ k = omega arith in z))

-- all of them
pub words_all : (xs : List ℕ) → words (length xs) (held xs) ≡ xs
words_all xs = words_front (length xs) xs (omega arith) ∙ take-length xs
