-- Brackets pair exactly where the instructions are the writing-out of nested blocks.
use Rattle.std.proofs.Common.{◌≡◌, ℕ, suc, ◌+◌, ◌<◌, ◌≤◌, ltb, List, [], ◌∷◌, length, None, Option, sym, refl, ap, ◌∙◌, arith}
use Rattle.std.proofs.lemmas.Bool.{lt-ltb}
use Rattle.instructions.specs.declared.Instruction.{Instruction}
use Rattle.instructions.specs.declared.Instruction.TheVariants.{Do, If, Else, End, Repeat, Again}
use Rattle.program.specs.declared.opening.Opening.{Opening}
use Rattle.program.specs.declared.opening.Opening.TheVariants.{Then, Otherwise, Loop}
use Rattle.program.specs.declared.refusal.Reason.{Reason}
use Rattle.program.specs.declared.refusal.Reason.TheVariants.{TooDeep}
use Rattle.program.specs.declared.refusal.Refusal.{Refusal}
use Rattle.program.specs.Refusals.{unless, or_else}
use Rattle.program.specs.Pairing.{pairing}
use Rattle.program.specs.Blocks.{Block, done, one, if_then, if_else, loop, flat, depth, fin}
use Rattle.program.proofs.Refusals.{no_some, opens}
use Rattle.brackets.specs.Nesting.{PairedIsNested}

module _ (why : Reason) (os : List Opening) (p : ℕ) where
  lets : (y : Option Refusal) → length os < 8 → or_else (unless (ltb (length os) 8) why p) y ≡ y
  lets y h = ap (λ b. or_else (unless b why p) y) (lt-ltb (length os) 8 h)

module _ (Note : Type 0) where
  -- what is still to close, as seen from inside: a block, and what closes it
  data Rest : Type 0 where
    base : Block Note → Rest
    to_end : Block Note → Rest → Rest
    to_else : Block Note → Block Note → Rest → Rest
    to_again : Block Note → Rest → Rest

  abbrev flat_rest : Rest → List Instruction
  flat_rest (base b) = flat b []
  flat_rest (to_end b r) = flat b (End ∷ flat_rest r)
  flat_rest (to_else b e r) = flat b (Else ∷ flat e (End ∷ flat_rest r))
  flat_rest (to_again b r) = flat b (Again ∷ flat_rest r)

  -- more in front of the innermost block
  abbrev front : (Block Note → Block Note) → Rest → Rest
  front f (base b) = base (f b)
  front f (to_end b r) = to_end (f b) r
  front f (to_else b e r) = to_else (f b) e r
  front f (to_again b r) = to_again (f b) r

  front-flat : (f : Block Note → Block Note) (pre : List Instruction → List Instruction) → ((b : Block Note) (is : List Instruction) → flat (f b) is ≡ pre (flat b is)) → (r : Rest) → flat_rest (front f r) ≡ pre (flat_rest r)
  front-flat f pre h (base b) = h b []
  front-flat f pre h (to_end b r) = h b (End ∷ flat_rest r)
  front-flat f pre h (to_else b e r) = h b (Else ∷ flat e (End ∷ flat_rest r))
  front-flat f pre h (to_again b r) = h b (Again ∷ flat_rest r)

  -- what is to close fits what is open
  data Fits : List Opening → Rest → Type 0 where
    f_base : {b : Block Note} → Fits [] (base b)
    f_end : {os : List Opening} {q a : ℕ} {b : Block Note} {r : Rest} → Fits os r → Fits (Then q a ∷ os) (to_end b r)
    f_both : {os : List Opening} {q a : ℕ} {b e : Block Note} {r : Rest} → Fits os r → Fits (Then q a ∷ os) (to_else b e r)
    f_else : {os : List Opening} {q a m : ℕ} {b : Block Note} {r : Rest} → Fits os r → Fits (Otherwise q a m ∷ os) (to_end b r)
    f_again : {os : List Opening} {q : ℕ} {b : Block Note} {r : Rest} → Fits os r → Fits (Loop q ∷ os) (to_again b r)

  front_fits : (f : Block Note → Block Note) {os : List Opening} {r : Rest} → Fits os r → Fits os (front f r)
  front_fits f f_base = f_base
  front_fits f (f_end h) = f_end h
  front_fits f (f_both h) = f_both h
  front_fits f (f_else h) = f_else h
  front_fits f (f_again h) = f_again h

  abbrev Gives : List Opening → List Instruction → Type 0
  Gives os is = (r : Rest) × Fits os r × (flat_rest r ≡ is)

  more : (i : Instruction) {is : List Instruction} {os os' : List Opening} → Gives os is → ((r : Rest) → Fits os r → Gives os' (i ∷ flat_rest r)) → Gives os' (i ∷ is)
  more i g h = let k = h g.0 g.1 in (k.0, k.1, k.2 ∙ ap (λ x. i ∷ x) g.2)

  on_if : (n : Note) (p a : ℕ) {os : List Opening} {r : Rest} → Fits (Then p a ∷ os) r → Gives os (If a ∷ flat_rest r)
  on_if n p a (f_end {b = b} {r = r} h) = (front (if_then n a b) r, front_fits _ h, front-flat _ (λ x. If a ∷ flat b (End ∷ x)) (λ u is. refl) r)
  on_if n p a (f_both {b = b} {e = e} {r = r} h) = (front (if_else n a b e) r, front_fits _ h, front-flat _ (λ x. If a ∷ flat b (Else ∷ flat e (End ∷ x))) (λ u is. refl) r)

  on_else : {q a m : ℕ} {os : List Opening} {r : Rest} → Fits (Otherwise q a m ∷ os) r → Gives (Then q a ∷ os) (Else ∷ flat_rest r)
  on_else (f_else {b = b} {r = r} h) = (to_else done b r, f_both h, refl)

  on_repeat : (q a k : ℕ) {os : List Opening} {r : Rest} → Fits (Loop q ∷ os) r → Gives os (Repeat a k ∷ flat_rest r)
  on_repeat q a k (f_again {b = b} {r = r} h) = (front (loop a k b) r, front_fits _ h, front-flat _ (λ x. Repeat a k ∷ flat b (Again ∷ x)) (λ u is. refl) r)

  module _ (note : ℕ → Note) where
    -- instructions that pair are what is left to close, whatever is open
    built : (is : List Instruction) (p : ℕ) (os : List Opening) → pairing os p is ≡ None → Gives os is
    built [] p [] h = (base done, f_base, refl)
    built [] p (o ∷ os) h = absurd (no_some h)
    built (Do op ∷ is) p os h = more (Do op) (built is (suc p) os h) (λ r f. (front (one op) r, front_fits _ f, front-flat _ (λ x. Do op ∷ x) (λ u js. refl) r))
    built (If a ∷ is) p os h = more (If a) (built is (suc p) (Then p a ∷ os) (opens os p h).1) (λ r f. on_if (note p) p a f)
    built (Else ∷ is) p [] h = absurd (no_some h)
    built (Else ∷ is) p (Then q a ∷ os) h = more Else (built is (suc p) (Otherwise q a p ∷ os) h) (λ r f. on_else f)
    built (Else ∷ is) p (Otherwise q a m ∷ os) h = absurd (no_some h)
    built (Else ∷ is) p (Loop q ∷ os) h = absurd (no_some h)
    built (End ∷ is) p [] h = absurd (no_some h)
    built (End ∷ is) p (Then q a ∷ os) h = more End (built is (suc p) os h) (λ r f. (to_end done r, f_end f, refl))
    built (End ∷ is) p (Otherwise q a m ∷ os) h = more End (built is (suc p) os h) (λ r f. (to_end done r, f_else f, refl))
    built (End ∷ is) p (Loop q ∷ os) h = absurd (no_some h)
    built (Repeat a k ∷ is) p os h = more (Repeat a k) (built is (suc p) (Loop p ∷ os) (opens os p h).1) (λ r f. on_repeat p a k f)
    built (Again ∷ is) p [] h = absurd (no_some h)
    built (Again ∷ is) p (Then q a ∷ os) h = absurd (no_some h)
    built (Again ∷ is) p (Otherwise q a m ∷ os) h = absurd (no_some h)
    built (Again ∷ is) p (Loop q ∷ os) h = more Again (built is (suc p) os h) (λ r f. (to_again done r, f_again f, refl))

  root : {r : Rest} → Fits [] r → (b : Block Note) × (r ≡ base b)
  root (f_base {b = b}) = (b, refl)

  -- a block whose brackets pair is shallow, and what follows it pairs
  shallow : (b : Block Note) (os : List Opening) (p : ℕ) (rest : List Instruction) → length os ≤ 8 → pairing os p (flat b rest) ≡ None → (depth b + length os ≤ 8) × (pairing os (fin b p) rest ≡ None)
  shallow done os p rest l h = (omega arith, h)
  shallow (one op b) os p rest l h = shallow b os (suc p) rest l h
  shallow (if_then n a t b) os p rest l h =
      let o = opens os p h in
      let x = shallow t (Then p a ∷ os) (suc p) (End ∷ flat b rest) o.0 o.1 in
      let y = shallow b os (suc (fin t (suc p))) rest l x.1 in
      (omega (arith, x.0, y.0), y.1)
  shallow (if_else n a t e b) os p rest l h =
      let o = opens os p h in
      let x = shallow t (Then p a ∷ os) (suc p) (Else ∷ flat e (End ∷ flat b rest)) o.0 o.1 in
      let m = fin t (suc p) in
      let y = shallow e (Otherwise p a m ∷ os) (suc m) (End ∷ flat b rest) o.0 x.1 in
      let z = shallow b os (suc (fin e (suc m))) rest l y.1 in
      (omega (arith, x.0, y.0, z.0), z.1)
  shallow (loop a k t b) os p rest l h =
      let o = opens os p h in
      let x = shallow t (Loop p ∷ os) (suc p) (Again ∷ flat b rest) o.0 o.1 in
      let y = shallow b os (suc (fin t (suc p))) rest l x.1 in
      (omega (arith, x.0, y.0), y.1)

  -- a shallow block passes, and leaves open what was open
  passes : (b : Block Note) (os : List Opening) (p : ℕ) (rest : List Instruction) → depth b + length os ≤ 8 → pairing os p (flat b rest) ≡ pairing os (fin b p) rest
  passes done os p rest h = refl
  passes (one op b) os p rest h = passes b os (suc p) rest h
  passes (if_then n a t b) os p rest h =
      lets TooDeep os p _ (omega arith)
      ∙ passes t (Then p a ∷ os) (suc p) (End ∷ flat b rest) (omega arith)
      ∙ passes b os (suc (fin t (suc p))) rest (omega arith)
  passes (if_else n a t e b) os p rest h =
      lets TooDeep os p _ (omega arith)
      ∙ passes t (Then p a ∷ os) (suc p) (Else ∷ flat e (End ∷ flat b rest)) (omega arith)
      ∙ passes e (Otherwise p a (fin t (suc p)) ∷ os) (suc (fin t (suc p))) (End ∷ flat b rest) (omega arith)
      ∙ passes b os (suc (fin e (suc (fin t (suc p))))) rest (omega arith)
  passes (loop a k t b) os p rest h =
      lets TooDeep os p _ (omega arith)
      ∙ passes t (Loop p ∷ os) (suc p) (Again ∷ flat b rest) (omega arith)
      ∙ passes b os (suc (fin t (suc p))) rest (omega arith)

  -- instructions that pair are a block's, at most eight deep
  pub tree : (ℕ → Note) → (code : List Instruction) → pairing [] 0 code ≡ None → (b : Block Note) × (flat b [] ≡ code) × (depth b ≤ 8)
  tree note code h =
      let g = built note code 0 [] h in
      let r = root g.1 in
      let e : flat r.0 [] ≡ code = sym (ap flat_rest r.1) ∙ g.2 in
      let s = shallow r.0 [] 0 [] (omega arith) (ap (pairing [] 0) e ∙ h) in
      (r.0, e, omega (arith, s.0))

pub paired_is_nested : PairedIsNested
paired_is_nested code = (
  tree (Unit {0}) (λ _. tt) code,
  λ n. ap (pairing [] 0) (sym n.1) ∙ passes (Unit {0}) n.0 [] 0 [] (omega (arith, n.2)),
)
