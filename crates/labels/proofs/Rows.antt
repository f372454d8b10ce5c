-- What a write to the list does to the sets, and to the room.
use Rattle.std.proofs.Common.{◌≡◌, ℕ, zero, suc, ◌<◌, ◌≤◌, Bool, true, false, cond, not, ◌||◌, eqb, ◌≢◌, List, [], ◌∷◌, length, get_or, set, sym, refl, ap, ◌∙◌, subst, ⊎_elim, arith, get_or-set_other, get_or-set_same}
use mathlib.Core.Path.{fun_ext}
use lib.Bits.{bit_or, or_add_and}
use Rattle.std.proofs.lemmas.Nat.{and_le_r}
use Rattle.std.proofs.lemmas.List.{set-get_or, get_or_past}
use Rattle.std.proofs.lemmas.Bool.{cases_lt}
use Rattle.labels.specs.Kinds.{secrecy}
use Rattle.labels.specs.Sets.{bits, either, sets, room, Grew}
use Rattle.labels.specs.Passes.{raised}

at_case : (l : List ℕ) (q v : ℕ) (A : ℕ → Bool) → q < length l → bits v ≡ either (bits (get_or l q 0)) A → (p : ℕ) (c : Bool) → eqb p q ≡ c → (r : ℕ) → sets (set l q v) p r ≡ cond c (sets l p r || A r) (sets l p r)
at_case l q v A h e p true x r =
    let pq : p ≡ q = grind (arith) in
    ap (λ y. bits (get_or (set l q v) y 0) r) pq ∙ ap (λ y. bits y r) (get_or-set_same l q v 0 h) ∙ ap (λ f. f r) e ∙ ap (λ y. bits (get_or l y 0) r || A r) (sym pq)
at_case l q v A h e p false x r =
    let pq : p ≢ q = λ y. let z : eqb p q ≡ true = grind (arith) in let w : ◌≡◌ {A = ℕ} 0 1 = cc in omega arith in
    ap (λ y. bits y r) (get_or-set_other l q p v 0 pq)

pub sets-raised : (l : List ℕ) (q v : ℕ) (A : ℕ → Bool) → q < length l → bits v ≡ either (bits (get_or l q 0)) A → sets (set l q v) ≡ raised secrecy (sets l) q A
sets-raised l q v A h e = fun_ext (λ p. fun_ext (λ r. at_case l q v A h e p (eqb p q) refl r))

pub or_up : (a b : ℕ) → a ≤ bit_or a b
or_up a b = omega (arith, or_add_and a b, and_le_r a b)

room_less : (l : List ℕ) (q v : ℕ) → q < length l → get_or l q 0 < v → v < 65536 → room (set l q v) < room l
room_less [] q v h g b = absurd (omega arith)
room_less (x ∷ l) zero v h g b = omega arith
room_less (x ∷ l) (suc q) v h g b = let e = room_less l q v (omega arith) g b in omega arith

-- the list after a raise, with the answer whether it changed
pub grew_raise : (l : List ℕ) (q b : ℕ) (c : Bool) → q < length l → bit_or (get_or l q 0) b < 65536 → c ≡ not (eqb (bit_or (get_or l q 0) b) (get_or l q 0)) → Grew c l (set l q (bit_or (get_or l q 0) b))
grew_raise l q b c h f e =
    let x = get_or l q 0 in
    let u = or_up x b in
    record {
      same = λ n. let s : bit_or x b ≡ x = grind (arith) in ap (set l q) s ∙ set-get_or l q 0;
      less = λ n. let s : bit_or x b ≢ x = λ y. (let z : eqb (bit_or x b) x ≡ true = grind (arith) in let w : ◌≡◌ {A = ℕ} 0 1 = cc in omega arith) in room_less l q (bit_or x b) h (omega arith) f;
    }

pub grew_none : (l : List ℕ) → Grew false l l
grew_none l = record { same = λ h. refl; less = λ h. let z : ◌≡◌ {A = ℕ} 0 1 = cc in absurd (omega arith) }

pub grew_both : (c d : Bool) (x y z : List ℕ) → Grew c x y → Grew d y z → Grew (c || d) x z
grew_both true true x y z f g = record { same = λ h. let w : ◌≡◌ {A = ℕ} 0 1 = cc in absurd (omega arith); less = λ h. let a = f.less refl in let b = g.less refl in omega arith }
grew_both true false x y z f g = record { same = λ h. let w : ◌≡◌ {A = ℕ} 0 1 = cc in absurd (omega arith); less = λ h. subst (λ l. room l < room x) (sym (g.same refl)) (f.less refl) }
grew_both false true x y z f g = record { same = λ h. let w : ◌≡◌ {A = ℕ} 0 1 = cc in absurd (omega arith); less = λ h. subst (λ l. room z < room l) (f.same refl) (g.less refl) }
grew_both false false x y z f g = record { same = λ h. g.same refl ∙ f.same refl; less = λ h. let w : ◌≡◌ {A = ℕ} 0 1 = cc in absurd (omega arith) }

pub all_zero : (l : List ℕ) (n : ℕ) → length l ≤ n → ((j : ℕ) → j < n → ◌≡◌ {A = ℕ} (get_or l j 0) 0) → (k : ℕ) → ◌≡◌ {A = ℕ} (get_or l k 0) 0
all_zero l n h f k = ⊎_elim (λ (x : k < n). f k x) (λ (x : n ≤ k). get_or_past l k 0 (omega arith)) (cases_lt k n)
