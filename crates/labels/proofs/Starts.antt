-- No move enters place 0: the smallest labels there are the entry labels.
use Rattle.std.proofs.Common.{◌≡◌, ℕ, zero, suc, ◌<◌, Bool, true, false, List, [], ◌∷◌, refl, subst, arith}
use mathlib.Core.Path.{fun_ext}
use Rattle.instructions.specs.declared.Instruction.{Instruction}
use Rattle.instructions.specs.declared.Instruction.TheVariants.{Do, If, Else, End, Repeat, Again}
use Rattle.program.specs.declared.opening.Opening.{Opening}
use Rattle.program.specs.declared.opening.Opening.TheVariants.{Then, Otherwise, Loop}
use Rattle.program.specs.Openings.{around}
use Rattle.program.proofs.Around.{AllBefore, before_around}
use Rattle.labels.proofs.Orders.{same, further, equal}
use Rattle.labels.specs.Kinds.{LabelKind, Within, Lawful}
use Rattle.labels.specs.declared.way.Way.{Way}
use Rattle.labels.specs.Rules.{Each, else_ways, Sub, marked, ways, Along, Keeps, Solves, Smallest}
use Rattle.labels.proofs.Solving.{Le, leaves_mono, less_mask, less_ways, less_marked}

-- a way to another place than 0
abbrev Onward : Way → Type 0
Onward w = 0 < w.to

else_onward : (o : Opening) (c : Bool) (p : ℕ) → Each Onward (else_ways o c p)
else_onward (Then q a) true p = (omega arith, (omega arith, tt))
else_onward (Then q a) false p = (omega arith, tt)
else_onward (Otherwise q a m) c p = tt
else_onward (Loop q) c p = tt

module _ {L : Type 0} (K : LabelKind L) (laws : Lawful K) where
  ways_onward : (S : ℕ → ℕ → L) (os : List Opening) (p : ℕ) (i : Instruction) → AllBefore p os → Each Onward (ways K (marked K S os) p i)
  ways_onward S os p (Do op) h = tt
  ways_onward S os p (If a) h = (omega arith, tt)
  ways_onward S [] p Else h = tt
  ways_onward S (o ∷ os) p Else h = else_onward o _ p
  ways_onward S [] p End h = tt
  ways_onward S (Then q a ∷ os) p End h = let x = h.0 in (omega arith, (omega arith, tt))
  ways_onward S (Otherwise q a m ∷ os) p End h = let x = h.0.0 in (omega arith, (omega arith, tt))
  ways_onward S (Loop q ∷ os) p End h = tt
  ways_onward S os p (Repeat a k) h = (omega arith, tt)
  ways_onward S [] p Again h = tt
  ways_onward S (Then q a ∷ os) p Again h = tt
  ways_onward S (Otherwise q a m ∷ os) p Again h = tt
  ways_onward S (Loop q ∷ os) p Again h = (omega arith, (omega arith, (omega arith, tt)))

  -- S, with other labels at place 0
  abbrev from : (ℕ → L) → (ℕ → ℕ → L) → ℕ → ℕ → L
  from entry S zero = entry
  from entry S (suc p) = S (suc p)

  module _ (entry : ℕ → L) (S : ℕ → ℕ → L) (start : Sub K entry (S 0)) where
    from_le : Le K laws (from entry S) S
    from_le zero = start
    from_le (suc p) = λ r. same K laws (S (suc p) r)

    from_there : (q : ℕ) → 0 < q → S q ≡ from entry S q
    from_there zero h = absurd (omega arith)
    from_there (suc q) h = refl

    each_from : (ws : List Way) → Each Onward ws → Each (Along K S) ws → Each (Along K (from entry S)) ws
    each_from [] o h = tt
    each_from (w ∷ ws) o h =
        (λ r. subst (λ A. Within K (from entry S w.from r) (A r)) (from_there w.to o.0) (further K laws _ _ _ (from_le w.from r) (h.0 r)), each_from ws o.1 h.1)

    keeps_from : (tables : ℕ → L) (os : List Opening) (p : ℕ) (i : Instruction) → AllBefore p os → Keeps K tables S (marked K S os) p i
        → Keeps K tables (from entry S) (marked K (from entry S) os) p i
    keeps_from tables os p (Do op) b k =
        λ r. further K laws _ _ _ (leaves_mono K laws tables op _ _ (from entry S p) (S p) (less_mask K laws (less_marked K laws (from entry S) S from_le os)) (from_le p) r) (k r)
    keeps_from tables os p (If a) b k = each_from (ways K (marked K S os) p (If a)) (ways_onward S os p (If a) b) k
    keeps_from tables os p Else b k = each_from _ (ways_onward (from entry S) os p Else b) (less_ways K laws (Along K S) p Else (less_marked K laws (from entry S) S from_le os) k)
    keeps_from tables os p End b k = each_from _ (ways_onward (from entry S) os p End b) (less_ways K laws (Along K S) p End (less_marked K laws (from entry S) S from_le os) k)
    keeps_from tables os p (Repeat a n) b k = each_from (ways K (marked K S os) p (Repeat a n)) (ways_onward S os p (Repeat a n) b) k
    keeps_from tables os p Again b k = each_from _ (ways_onward (from entry S) os p Again b) (less_ways K laws (Along K S) p Again (less_marked K laws (from entry S) S from_le os) k)

  pub start_is_entry : (tables entry : ℕ → L) (code : List Instruction) (S : ℕ → ℕ → L) → Smallest K tables entry code S → S 0 ≡ entry
  start_is_entry tables entry code S s =
      let lower : Solves K tables entry code (from entry S) = record {
        start = λ r. same K laws (entry r);
        rules = λ p i is d. keeps_from entry S s.solves.start tables (around code p) p i (before_around code p) (s.solves.rules p i is d);
      } in
      fun_ext (λ r. equal K laws (S 0 r) (entry r) (s.least (from entry S) lower 0 r) (s.solves.start r))
