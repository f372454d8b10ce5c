-- What is open around each place of a program, seen from the instructions that are left.
use Rattle.std.proofs.Common.{◌≡◌, ℕ, zero, suc, ◌-◌, ◌≤◌, List, [], ◌∷◌, length, drop, None, refl, ap, arith}
use Rattle.instructions.specs.declared.Instruction.{Instruction}
use Rattle.instructions.specs.declared.Instruction.TheVariants.{Do, If, Else, End, Repeat, Again}
use Rattle.program.specs.declared.opening.Opening.{Opening}
use Rattle.program.specs.declared.opening.Opening.TheVariants.{Then, Otherwise, Loop}
use Rattle.program.specs.Pairing.{pairing}
use Rattle.program.proofs.Refusals.{no_some, opens}

-- how many brackets these instructions close that they do not open
abbrev pub closers : List Instruction → ℕ
closers [] = 0
closers (Do op ∷ is) = closers is
closers (If a ∷ is) = closers is - 1
closers (Else ∷ is) = closers is
closers (End ∷ is) = suc (closers is)
closers (Repeat a k ∷ is) = closers is - 1
closers (Again ∷ is) = suc (closers is)

-- as many as are open
pub closers_open : (is : List Instruction) (p : ℕ) (os : List Opening) → pairing os p is ≡ None → closers is ≡ length os
closers_open [] p [] h = refl
closers_open [] p (o ∷ os) h = absurd (no_some h)
closers_open (Do op ∷ is) p os h = closers_open is (suc p) os h
closers_open (If a ∷ is) p os h = let e = closers_open is (suc p) (Then p a ∷ os) (opens os p h).1 in omega arith
closers_open (Else ∷ is) p [] h = absurd (no_some h)
closers_open (Else ∷ is) p (Then q a ∷ os) h = closers_open is (suc p) (Otherwise q a p ∷ os) h
closers_open (Else ∷ is) p (Otherwise q a m ∷ os) h = absurd (no_some h)
closers_open (Else ∷ is) p (Loop q ∷ os) h = absurd (no_some h)
closers_open (End ∷ is) p [] h = absurd (no_some h)
closers_open (End ∷ is) p (Then q a ∷ os) h = ap suc (closers_open is (suc p) os h)
closers_open (End ∷ is) p (Otherwise q a m ∷ os) h = ap suc (closers_open is (suc p) os h)
closers_open (End ∷ is) p (Loop q ∷ os) h = absurd (no_some h)
closers_open (Repeat a k ∷ is) p os h = let e = closers_open is (suc p) (Loop p ∷ os) (opens os p h).1 in omega arith
closers_open (Again ∷ is) p [] h = absurd (no_some h)
closers_open (Again ∷ is) p (Then q a ∷ os) h = absurd (no_some h)
closers_open (Again ∷ is) p (Otherwise q a m ∷ os) h = absurd (no_some h)
closers_open (Again ∷ is) p (Loop q ∷ os) h = ap suc (closers_open is (suc p) os h)

-- what is open before these instructions
pub record Around (is : List Instruction) : Type 0 where
  pub place : ℕ
  pub openings : List Opening
  pub pairs : pairing openings place is ≡ None
  pub few : length openings ≤ 8

after : (i : Instruction) (is : List Instruction) (p : ℕ) (os : List Opening) → pairing os p (i ∷ is) ≡ None → length os ≤ 8 → Around is
after (Do op) is p os h l = record { place = suc p; openings = os; pairs = h; few = l }
after (If a) is p os h l = let o = opens os p h in record { place = suc p; openings = Then p a ∷ os; pairs = o.1; few = o.0 }
after Else is p [] h l = absurd (no_some h)
after Else is p (Then q a ∷ os) h l = record { place = suc p; openings = Otherwise q a p ∷ os; pairs = h; few = l }
after Else is p (Otherwise q a m ∷ os) h l = absurd (no_some h)
after Else is p (Loop q ∷ os) h l = absurd (no_some h)
after End is p [] h l = absurd (no_some h)
after End is p (Then q a ∷ os) h l = record { place = suc p; openings = os; pairs = h; few = omega arith }
after End is p (Otherwise q a m ∷ os) h l = record { place = suc p; openings = os; pairs = h; few = omega arith }
after End is p (Loop q ∷ os) h l = absurd (no_some h)
after (Repeat a k) is p os h l = let o = opens os p h in record { place = suc p; openings = Loop p ∷ os; pairs = o.1; few = o.0 }
after Again is p [] h l = absurd (no_some h)
after Again is p (Then q a ∷ os) h l = absurd (no_some h)
after Again is p (Otherwise q a m ∷ os) h l = absurd (no_some h)
after Again is p (Loop q ∷ os) h l = record { place = suc p; openings = os; pairs = h; few = omega arith }

further : (n : ℕ) (is : List Instruction) → Around is → n ≤ length is → Around (drop n is)
further zero is a h = a
further (suc n) [] a h = absurd (omega arith)
further (suc n) (i ∷ is) a h = further n is (after i is a.place a.openings a.pairs a.few) (omega arith)

pub around : (code : List Instruction) → pairing [] 0 code ≡ None → (p : ℕ) → p ≤ length code → Around (drop p code)
around code h p l = further p code (record { place = 0; openings = []; pairs = h; few = omega arith }) l
