-- How brackets pair, without places.
use Rattle.std.proofs.Common.{◌≡◌, ℕ, suc, ◌<◌, Bool, true, false, ◌&&◌, ltb, List, [], ◌∷◌, length, None, Option, sym, refl, ap, ◌∙◌}
use Rattle.std.proofs.lemmas.Bool.{and_parts, and_from, lt-ltb, false≢true}
use Rattle.instructions.specs.declared.Instruction.{Instruction}
use Rattle.instructions.specs.declared.Instruction.TheVariants.{Do, If, Else, End, Repeat, Again}
use Rattle.program.specs.declared.opening.Opening.{Opening}
use Rattle.program.specs.declared.opening.Opening.TheVariants.{Then, Otherwise, Loop}
use Rattle.program.specs.declared.refusal.Refusal.{Refusal}
use Rattle.program.specs.declared.refusal.Reason.TheVariants.{TooDeep}
use Rattle.program.specs.Refusals.{unless, or_else}
use Rattle.program.specs.Pairing.{pairing}
use Rattle.program.proofs.Refusals.{no_some, opens}

pub data Shape : Type 0 where
  in_then in_else in_loop : Shape

-- the brackets pair, at most eight open together
abbrev pub Fit : List Shape → List Instruction → Bool
Fit [] [] = true
Fit (s ∷ ss) [] = false
Fit ss (Do o ∷ is) = Fit ss is
Fit ss (If a ∷ is) = ltb (length ss) 8 && Fit (in_then ∷ ss) is
Fit [] (Else ∷ is) = false
Fit (in_then ∷ ss) (Else ∷ is) = Fit (in_else ∷ ss) is
Fit (in_else ∷ ss) (Else ∷ is) = false
Fit (in_loop ∷ ss) (Else ∷ is) = false
Fit [] (End ∷ is) = false
Fit (in_then ∷ ss) (End ∷ is) = Fit ss is
Fit (in_else ∷ ss) (End ∷ is) = Fit ss is
Fit (in_loop ∷ ss) (End ∷ is) = false
Fit ss (Repeat a k ∷ is) = ltb (length ss) 8 && Fit (in_loop ∷ ss) is
Fit [] (Again ∷ is) = false
Fit (in_then ∷ ss) (Again ∷ is) = false
Fit (in_else ∷ ss) (Again ∷ is) = false
Fit (in_loop ∷ ss) (Again ∷ is) = Fit ss is

abbrev pub shape_of : Opening → Shape
shape_of (Then q a) = in_then
shape_of (Otherwise q a e) = in_else
shape_of (Loop q) = in_loop

abbrev shapes_of : List Opening → List Shape
shapes_of [] = []
shapes_of (o ∷ os) = shape_of o ∷ shapes_of os

length-shapes : (os : List Opening) → length (shapes_of os) ≡ length os
length-shapes [] = refl
length-shapes (o ∷ os) = ap suc (length-shapes os)

room_there : (os : List Opening) → length os < 8 → ltb (length (shapes_of os)) 8 ≡ true
room_there os h = ap (λ n. ltb n 8) (length-shapes os) ∙ lt-ltb (length os) 8 h

opened : (os : List Opening) (p : ℕ) (y : Option Refusal) → ltb (length (shapes_of os)) 8 ≡ true → y ≡ None → or_else (unless (ltb (length os) 8) TooDeep p) y ≡ None
opened os p y h e = ap (λ b. or_else (unless b TooDeep p) y) (sym (ap (λ n. ltb n 8) (length-shapes os)) ∙ h) ∙ e

pairs_fit : (is : List Instruction) (os : List Opening) (p : ℕ) → pairing os p is ≡ None → Fit (shapes_of os) is ≡ true
pairs_fit [] [] p h = refl
pairs_fit [] (o ∷ os) p h = absurd (no_some h)
pairs_fit (Do op ∷ is) os p h = pairs_fit is os (suc p) h
pairs_fit (If a ∷ is) os p h = let o = opens os p h in and_from _ _ (room_there os o.0) (pairs_fit is (Then p a ∷ os) (suc p) o.1)
pairs_fit (Else ∷ is) [] p h = absurd (no_some h)
pairs_fit (Else ∷ is) (Then q a ∷ os) p h = pairs_fit is (Otherwise q a p ∷ os) (suc p) h
pairs_fit (Else ∷ is) (Otherwise q a m ∷ os) p h = absurd (no_some h)
pairs_fit (Else ∷ is) (Loop q ∷ os) p h = absurd (no_some h)
pairs_fit (End ∷ is) [] p h = absurd (no_some h)
pairs_fit (End ∷ is) (Then q a ∷ os) p h = pairs_fit is os (suc p) h
pairs_fit (End ∷ is) (Otherwise q a m ∷ os) p h = pairs_fit is os (suc p) h
pairs_fit (End ∷ is) (Loop q ∷ os) p h = absurd (no_some h)
pairs_fit (Repeat a k ∷ is) os p h = let o = opens os p h in and_from _ _ (room_there os o.0) (pairs_fit is (Loop p ∷ os) (suc p) o.1)
pairs_fit (Again ∷ is) [] p h = absurd (no_some h)
pairs_fit (Again ∷ is) (Then q a ∷ os) p h = absurd (no_some h)
pairs_fit (Again ∷ is) (Otherwise q a m ∷ os) p h = absurd (no_some h)
pairs_fit (Again ∷ is) (Loop q ∷ os) p h = pairs_fit is os (suc p) h

fit_pairs : (is : List Instruction) (os : List Opening) (p : ℕ) → Fit (shapes_of os) is ≡ true → pairing os p is ≡ None
fit_pairs [] [] p h = refl
fit_pairs [] (o ∷ os) p h = absurd (false≢true h)
fit_pairs (Do op ∷ is) os p h = fit_pairs is os (suc p) h
fit_pairs (If a ∷ is) os p h = let b = and_parts _ _ h in opened os p _ b.0 (fit_pairs is (Then p a ∷ os) (suc p) b.1)
fit_pairs (Else ∷ is) [] p h = absurd (false≢true h)
fit_pairs (Else ∷ is) (Then q a ∷ os) p h = fit_pairs is (Otherwise q a p ∷ os) (suc p) h
fit_pairs (Else ∷ is) (Otherwise q a m ∷ os) p h = absurd (false≢true h)
fit_pairs (Else ∷ is) (Loop q ∷ os) p h = absurd (false≢true h)
fit_pairs (End ∷ is) [] p h = absurd (false≢true h)
fit_pairs (End ∷ is) (Then q a ∷ os) p h = fit_pairs is os (suc p) h
fit_pairs (End ∷ is) (Otherwise q a m ∷ os) p h = fit_pairs is os (suc p) h
fit_pairs (End ∷ is) (Loop q ∷ os) p h = absurd (false≢true h)
fit_pairs (Repeat a k ∷ is) os p h = let b = and_parts _ _ h in opened os p _ b.0 (fit_pairs is (Loop p ∷ os) (suc p) b.1)
fit_pairs (Again ∷ is) [] p h = absurd (false≢true h)
fit_pairs (Again ∷ is) (Then q a ∷ os) p h = absurd (false≢true h)
fit_pairs (Again ∷ is) (Otherwise q a m ∷ os) p h = absurd (false≢true h)
fit_pairs (Again ∷ is) (Loop q ∷ os) p h = fit_pairs is os (suc p) h

pub shaped : (code : List Instruction) → pairing [] 0 code ≡ None → Fit [] code ≡ true
shaped code h = pairs_fit code [] 0 h

pub placed : (code : List Instruction) → Fit [] code ≡ true → pairing [] 0 code ≡ None
placed code h = fit_pairs code [] 0 h
