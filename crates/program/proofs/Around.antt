-- The openings around a place: how they go on, where they lie, and how many there are.
use Rattle.std.proofs.Common.{◌≡◌, ℕ, zero, suc, ◌+◌, ◌<◌, ◌≤◌, false, ltb, List, [], ◌∷◌, length, get_or, drop, is_some, None, refl, ap, ◌∙◌, subst, arith}
use Rattle.std.proofs.lemmas.Bool.{ltb-true}
use Rattle.instructions.specs.declared.Instruction.{Instruction}
use Rattle.instructions.specs.declared.Instruction.TheVariants.{Do, If, Else, End, Repeat, Again}
use Rattle.program.specs.declared.opening.Opening.{Opening}
use Rattle.program.specs.declared.opening.Opening.TheVariants.{Then, Otherwise, Loop}
use Rattle.program.specs.Pairing.{pairing, wrong}
use Rattle.program.specs.Openings.{past, open_after, around, Before}
use Rattle.program.proofs.Refusals.{none, both, passed}

-- the instructions after place p
pub drop_next : (code : List Instruction) (p : ℕ) (i : Instruction) (is : List Instruction) → drop p code ≡ i ∷ is → drop (suc p) code ≡ is
drop_next [] zero i is h = let z : ◌≡◌ {A = ℕ} 0 1 = cc in absurd (omega arith)
drop_next (j ∷ l) zero i is h = cc
drop_next [] (suc p) i is h = let z : ◌≡◌ {A = ℕ} 0 1 = cc in absurd (omega arith)
drop_next (j ∷ l) (suc p) i is h = drop_next l p i is h

pub drop_at : (code : List Instruction) (p : ℕ) (i : Instruction) (is : List Instruction) → drop p code ≡ i ∷ is → (p < length code) × (get_or code p Again ≡ i)
drop_at [] zero i is h = let z : ◌≡◌ {A = ℕ} 0 1 = cc in absurd (omega arith)
drop_at (j ∷ l) zero i is h = (omega arith, cc)
drop_at [] (suc p) i is h = let z : ◌≡◌ {A = ℕ} 0 1 = cc in absurd (omega arith)
drop_at (j ∷ l) (suc p) i is h = let e = drop_at l p i is h in (omega (arith, e.0), e.1)

open_next : (os : List Opening) (n p : ℕ) (l : List Instruction) (i : Instruction) (is : List Instruction) → drop p l ≡ i ∷ is → open_after os n l (suc p) ≡ past (n + p) i (open_after os n l p)
open_next os n zero [] i is h = let z : ◌≡◌ {A = ℕ} 0 1 = cc in absurd (omega arith)
open_next os n zero (j ∷ l) i is h =
    let e : j ≡ i = cc in
    let z : n ≡ n + 0 = omega arith in
    (λ t. past (z t) (e t) os)
open_next os n (suc p) [] i is h = let z : ◌≡◌ {A = ℕ} 0 1 = cc in absurd (omega arith)
open_next os n (suc p) (j ∷ l) i is h =
    let z : suc n + p ≡ n + suc p = omega arith in
    open_next (past n j os) (suc n) p l i is h ∙ ap (λ m. past m i (open_after (past n j os) (suc n) l p)) z

pub around_next : (code : List Instruction) (p : ℕ) (i : Instruction) (is : List Instruction) → drop p code ≡ i ∷ is → around code (suc p) ≡ past p i (around code p)
unfolding around
around_next code p i is h =
    let z : 0 + p ≡ p = omega arith in
    open_next [] 0 p code i is h ∙ ap (λ m. past m i (open_after [] 0 code p)) z

-- nothing is open at place 0
pub around_none : (code : List Instruction) → [] ≡ around code 0
unfolding around
around_none code = refl

-- every opening lies before place p
abbrev pub AllBefore : ℕ → List Opening → Type 0
AllBefore p [] = Unit {0}
AllBefore p (o ∷ os) = Before p o × AllBefore p os

before_le : (p q : ℕ) (o : Opening) → p ≤ q → Before p o → Before q o
before_le p q (Then r a) l h = omega arith
before_le p q (Otherwise r a m) l h = (omega (arith, h.0), omega (arith, h.1))
before_le p q (Loop r) l h = omega arith

all_le : (p q : ℕ) (os : List Opening) → p ≤ q → AllBefore p os → AllBefore q os
all_le p q [] l h = tt
all_le p q (o ∷ os) l h = (before_le p q o l h.0, all_le p q os l h.1)

before_past : (p : ℕ) (i : Instruction) (os : List Opening) → AllBefore p os → AllBefore (suc p) (past p i os)
before_past p (Do op) os h = all_le p (suc p) os (omega arith) h
before_past p (If a) os h = (omega arith, all_le p (suc p) os (omega arith) h)
before_past p Else [] h = tt
before_past p Else (Then q a ∷ os) h = let x = h.0 in ((omega arith, omega arith), all_le p (suc p) os (omega arith) h.1)
before_past p Else (Otherwise q a m ∷ os) h = all_le p (suc p) (Otherwise q a m ∷ os) (omega arith) h
before_past p Else (Loop q ∷ os) h = all_le p (suc p) (Loop q ∷ os) (omega arith) h
before_past p End [] h = tt
before_past p End (Then q a ∷ os) h = all_le p (suc p) os (omega arith) h.1
before_past p End (Otherwise q a m ∷ os) h = all_le p (suc p) os (omega arith) h.1
before_past p End (Loop q ∷ os) h = all_le p (suc p) (Loop q ∷ os) (omega arith) h
before_past p (Repeat a k) os h = (omega arith, all_le p (suc p) os (omega arith) h)
before_past p Again [] h = tt
before_past p Again (Then q a ∷ os) h = all_le p (suc p) (Then q a ∷ os) (omega arith) h
before_past p Again (Otherwise q a m ∷ os) h = all_le p (suc p) (Otherwise q a m ∷ os) (omega arith) h
before_past p Again (Loop q ∷ os) h = all_le p (suc p) os (omega arith) h.1

before_after : (os : List Opening) (n : ℕ) (l : List Instruction) (k : ℕ) → AllBefore n os → AllBefore (n + k) (open_after os n l k)
before_after os n l zero h = all_le n (n + 0) os (omega arith) h
before_after os n [] (suc k) h = all_le n (n + suc k) os (omega arith) h
before_after os n (i ∷ l) (suc k) h =
    let z : suc n + k ≡ n + suc k = omega arith in
    subst (λ m. AllBefore m (open_after (past n i os) (suc n) l k)) z (before_after (past n i os) (suc n) l k (before_past n i os h))

pub before_around : (code : List Instruction) (p : ℕ) → AllBefore p (around code p)
unfolding around
before_around code p = let z : 0 + p ≡ p = omega arith in subst (λ m. AllBefore m (open_after [] 0 code p)) z (before_after [] 0 code p tt)

few_else : (p : ℕ) (os : List Opening) → length os ≤ 8 → length (past p Else os) ≤ 8
few_else p [] h = h
few_else p (Then q a ∷ os) h = h
few_else p (Otherwise q a m ∷ os) h = h
few_else p (Loop q ∷ os) h = h

few_end : (p : ℕ) (os : List Opening) → length os ≤ 8 → length (past p End os) ≤ 8
few_end p [] h = h
few_end p (Then q a ∷ os) h = omega arith
few_end p (Otherwise q a m ∷ os) h = omega arith
few_end p (Loop q ∷ os) h = h

few_again : (p : ℕ) (os : List Opening) → length os ≤ 8 → length (past p Again os) ≤ 8
few_again p [] h = h
few_again p (Then q a ∷ os) h = h
few_again p (Otherwise q a m ∷ os) h = h
few_again p (Loop q ∷ os) h = omega arith

few_past : (p : ℕ) (i : Instruction) (os : List Opening) → length os ≤ 8 → wrong os p i ≡ None → length (past p i os) ≤ 8
few_past p (Do op) os h e = h
few_past p (If a) os h e = let r = ltb-true (length os) 8 (passed (ltb (length os) 8) _ p e) in omega arith
few_past p Else os h e = few_else p os h
few_past p End os h e = few_end p os h
few_past p (Repeat a k) os h e = let r = ltb-true (length os) 8 (passed (ltb (length os) 8) _ p e) in omega arith
few_past p Again os h e = few_again p os h

few_after : (os : List Opening) (n : ℕ) (l : List Instruction) (k : ℕ) → length os ≤ 8 → pairing os n l ≡ None → length (open_after os n l k) ≤ 8
few_after os n l zero h e = h
few_after os n [] (suc k) h e = h
few_after os n (i ∷ l) (suc k) h e =
    let b = both (wrong os n i) (pairing (past n i os) (suc n) l) e in
    few_after (past n i os) (suc n) l k (few_past n i os h b.0) b.1

-- where brackets pair, at most eight openings are open around any place
pub few_around : (code : List Instruction) → is_some (pairing [] 0 code) ≡ false → (p : ℕ) → length (around code p) ≤ 8
unfolding around
few_around code e p = few_after [] 0 code p (omega arith) (none (pairing [] 0 code) e)
