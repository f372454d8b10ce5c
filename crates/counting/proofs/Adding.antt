-- The pass that counts.
use Rattle.std.proofs.Common.{◌≡◌, ℕ, zero, suc, ◌+◌, ◌<◌, ◌≤◌, cond, List, [], ◌∷◌, map, length, get_or, drop, None, sym, refl, ap, ◌∙◌, arith}
use mathlib.Core.Path.{fun_ext}
use Rattle.std.proofs.lemmas.Bool.{lt-ltb}
use Rattle.instructions.specs.declared.Instruction.{Instruction}
use Rattle.instructions.specs.declared.Instruction.TheVariants.{Do, If, Else, End, Repeat, Again}
use Rattle.program.specs.declared.opening.Opening.{Opening}
use Rattle.program.specs.declared.opening.Opening.TheVariants.{Then, Loop}
use Rattle.program.specs.declared.header.Table.{Table}
use Rattle.program.specs.Pairing.{pairing}
use Rattle.program.specs.Hold.{hold}
use Rattle.memory.specs.declared.Access.{Access}
use Rattle.memory.specs.declared.Access.TheVariants.{Read, Write}
use Rattle.machine.specs.States.{held}
use Rattle.machine.specs.Most.{Price, price}
use Rattle.program.proofs.Refusals.{no_some, opens}
use Rattle.machine.proofs.Around.{closers, closers_open, around}
use Rattle.counting.specs.declared.open_bracket.OpenBracket.{OpenBracket}
use Rattle.counting.specs.Counting.{costs, no_price, priced, mark_price, open_bracket, innermost, arms, turns, entered, sums, Added}

-- what an instruction needs of the brackets around it
abbrev Asks : Instruction → List OpenBracket → Type 0
Asks (Do op) fs = Unit {0}
Asks (If a) fs = length fs < 8
Asks Else fs = 0 < length fs
Asks End fs = 0 < length fs
Asks (Repeat a k) fs = length fs < 8
Asks Again fs = 0 < length fs

asked : (i : Instruction) (is : List Instruction) (fs : List OpenBracket) (p : ℕ) (os : List Opening) → pairing os p (i ∷ is) ≡ None → length fs ≡ length os → Asks i fs
asked (Do op) is fs p os h e = tt
asked (If a) is fs p os h e = let o = opens os p h in omega (arith, o.0)
asked Else is fs p [] h e = absurd (no_some h)
asked Else is fs p (o ∷ os) h e = omega arith
asked End is fs p [] h e = absurd (no_some h)
asked End is fs p (o ∷ os) h e = omega arith
asked (Repeat a k) is fs p os h e = let o = opens os p h in omega (arith, o.0)
asked Again is fs p [] h e = absurd (no_some h)
asked Again is fs p (o ∷ os) h e = omega arith

entered_room : (f : OpenBracket) (fs : List OpenBracket) → length fs < 8 → entered f fs ≡ f ∷ fs
entered_room f fs h = ap (λ b. cond b (f ∷ fs) fs) (lt-ltb (length fs) 8 h)

module _ (w : Price) where
  sums_more : (i : Instruction) (is : List Instruction) (fs : List OpenBracket) (x : ℕ) (fs' : List OpenBracket) (x' : ℕ) → Asks i fs → Added w i fs x fs' x' → sums w fs x (i ∷ is) ≡ sums w fs' x' is
  sums_more (Do op) is fs x fs' x' k a = ap (λ s. sums w s (hold (x + price w op)) is) (sym a.0) ∙ ap (λ n. sums w fs' n is) (sym a.1)
  sums_more (If b) is fs x fs' x' k a = ap (λ s. sums w s 0 is) (sym (a.0 ∙ entered_room (open_bracket x 0 0) fs k)) ∙ ap (λ n. sums w fs' n is) (sym a.1)
  sums_more Else is fs x fs' x' k a = ap (λ s. sums w s 0 is) (sym a.0) ∙ ap (λ n. sums w fs' n is) (sym a.1)
  sums_more End is fs x fs' x' k a = ap (λ s. sums w s (hold (arms w (innermost fs) x)) is) (sym a.0) ∙ ap (λ n. sums w fs' n is) (sym a.1)
  sums_more (Repeat b m) is fs x fs' x' k a = ap (λ s. sums w s 0 is) (sym (a.0 ∙ entered_room (open_bracket x 0 m) fs k)) ∙ ap (λ n. sums w fs' n is) (sym a.1)
  sums_more Again is fs x fs' x' k a = ap (λ s. sums w s (hold (turns w (innermost fs) x)) is) (sym a.0) ∙ ap (λ n. sums w fs' n is) (sym a.1)

  -- as many brackets are open as the instructions that are left close
  deep_more : (i : Instruction) (is : List Instruction) (fs : List OpenBracket) (x : ℕ) (fs' : List OpenBracket) (x' : ℕ) (p : ℕ) (os : List Opening) → pairing os p (i ∷ is) ≡ None → Asks i fs → Added w i fs x fs' x' → length fs ≡ closers (i ∷ is) → length fs' ≡ closers is
  deep_more (Do op) is fs x fs' x' p os h k a e = ap length a.0 ∙ e
  deep_more (If b) is fs x fs' x' p os h k a e =
      let q = closers_open is (suc p) (Then p b ∷ os) (opens os p h).1 in
      let s = ap length (a.0 ∙ entered_room (open_bracket x 0 0) fs k) in
      omega arith
  deep_more Else is [] x fs' x' p os h k a e = absurd (omega arith)
  deep_more Else is (f ∷ fs) x fs' x' p os h k a e = ap length a.0 ∙ e
  deep_more End is [] x fs' x' p os h k a e = absurd (omega arith)
  deep_more End is (f ∷ fs) x fs' x' p os h k a e = let s = ap length a.0 in omega arith
  deep_more (Repeat b m) is fs x fs' x' p os h k a e =
      let q = closers_open is (suc p) (Loop p ∷ os) (opens os p h).1 in
      let s = ap length (a.0 ∙ entered_room (open_bracket x 0 m) fs k) in
      omega arith
  deep_more Again is [] x fs' x' p os h k a e = absurd (omega arith)
  deep_more Again is (f ∷ fs) x fs' x' p os h k a e = let s = ap length a.0 in omega arith

  module _ (code : List Instruction) where
    -- the pass has come to place p
    pub record Counted (p : ℕ) (fs : List OpenBracket) (x : ℕ) : Type 0 where
      pub goes : sums w fs x (drop p code) ≡ sums w [] 0 code
      pub deep : length fs ≡ closers (drop p code)
      pub small : x ≤ 1000001

    pub count_none : pairing [] 0 code ≡ None → (fs : List OpenBracket) → fs ≡ [] → Counted 0 fs 0
    count_none pairs fs e = record {
      goes = ap (λ s. sums w s 0 code) e;
      deep = ap length e ∙ sym (closers_open code 0 [] pairs);
      small = omega arith;
    }

    pub count_more : pairing [] 0 code ≡ None → {p : ℕ} {i : Instruction} {fs : List OpenBracket} {x : ℕ} {fs' : List OpenBracket} {x' : ℕ}
        → drop p code ≡ i ∷ drop (p + 1) code → p < length code → Counted p fs x → Added w i fs x fs' x' → x' ≤ 1000001 → Counted (p + 1) fs' x'
    count_more pairs {p} {i} {fs} {x} {fs'} {x'} h l s d small =
        let is = drop (p + 1) code in
        let b = around code pairs p (omega arith) in
        let f : pairing b.openings b.place (i ∷ is) ≡ None = ap (pairing b.openings b.place) (sym h) ∙ b.pairs in
        let e : length fs ≡ closers (i ∷ is) = s.deep ∙ ap closers h in
        let k = asked i is fs b.place b.openings f (e ∙ closers_open (i ∷ is) b.place b.openings f) in
        record {
          goes = sym (sums_more i is fs x fs' x' k d) ∙ (sym (ap (sums w fs x) h) ∙ s.goes);
          deep = deep_more i is fs x fs' x' b.place b.openings f k d e;
          small = small;
        }

module _ (cost : Access → ℕ → ℕ) where
  read_costs : (tables : List Table) (t : ℕ) → (get_or (map (costs cost) tables) t no_price).read ≡ get_or (map (λ x. cost Read x.length) tables) t 0
  read_costs [] t = refl
  read_costs (x ∷ tables) zero = refl
  read_costs (x ∷ tables) (suc t) = read_costs tables t

  write_costs : (tables : List Table) (t : ℕ) → (get_or (map (costs cost) tables) t no_price).write ≡ get_or (map (λ x. cost Write x.length) tables) t 0
  write_costs [] t = refl
  write_costs (x ∷ tables) zero = refl
  write_costs (x ∷ tables) (suc t) = write_costs tables t

  -- what accesses cost, as the code holds it
  pub marks_alone : (tables : List Table) → priced 0 (map (costs cost) tables) ≡ mark_price cost tables
  marks_alone tables =
      let F : (ℕ → ℕ) → (ℕ → ℕ) → Price = λ f g. record { step = 0; read = f; write = g } in
      let r = fun_ext (read_costs tables) in
      let w = fun_ext (write_costs tables) in
      ap (λ f. F f (λ t. (get_or (map (costs cost) tables) t no_price).write)) r ∙ ap (F (held (map (λ (x : Table). cost Read x.length) tables))) w
