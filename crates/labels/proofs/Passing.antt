-- The steps of a pass, as a loop takes them, and where passes begin.
use Rattle.std.proofs.Common.{◌≡◌, ℕ, zero, suc, ◌+◌, ◌<◌, ◌≤◌, Bool, List, [], ◌∷◌, length, get_or, drop, sym, ap, ◌∙◌, subst, arith}
use Rattle.std.proofs.lemmas.List.{at_drop_more, at_drop_all, drop_more}
use Rattle.instructions.specs.declared.Instruction.{Instruction}
use Rattle.instructions.specs.declared.Instruction.TheVariants.{Again}
use Rattle.program.specs.declared.opening.Marked.{Marked}
use Rattle.program.specs.Openings.{past, around}
use Rattle.program.proofs.Around.{around_next, AllBefore, before_around}
use Rattle.brackets.specs.Labelled.{unmarked}
use Rattle.brackets.proofs.Unmarking.{as_long, unmarked_past}
use Rattle.labels.proofs.Orders.{same, lowest}
use Rattle.labels.specs.Kinds.{LabelKind, Within, Lawful, secrecy}
use Rattle.labels.specs.Rules.{Sub, Solves}
use Rattle.labels.specs.Passes.{Ahead, labelled, opens, flow, sweep, Rising}
use Rattle.labels.specs.Sets.{bits, sets}
use Rattle.labels.proofs.Bits.{bits_zero}
use Rattle.labels.proofs.Plain.{plain}

module _ {L : Type 0} where
  top_ahead : (p : ℕ) (ks : List (Marked L)) → AllBefore p (unmarked ks) → Ahead p ks
  top_ahead p [] h = tt
  top_ahead p (k ∷ ks) h = h.0

  pub ahead : (code : List Instruction) (p : ℕ) (ks : List (Marked L)) → unmarked ks ≡ around code p → Ahead p ks
  ahead code p ks e = top_ahead p ks (subst (AllBefore p) (sym e) (before_around code p))

module _ {L : Type 0} (K : LabelKind L) where
  pub unmarked-opens : (A : ℕ → L) (ks : List (Marked L)) (p : ℕ) (i : Instruction) → unmarked (opens K A ks p i) ≡ past p i (unmarked ks)
  unmarked-opens A ks p i = unmarked_past (labelled K A i) ks p i

  module _ (code : List Instruction) (p : ℕ) (ks : List (Marked L)) (i : Instruction) (lt : p < length code) (is : i ≡ get_or code p Again) where
    pub around_more : (A : ℕ → L) → unmarked ks ≡ around code p → unmarked (opens K A ks p i) ≡ around code (p + 1)
    around_more A e =
        let z : p + 1 ≡ suc p = omega arith in
        unmarked-opens A ks p i
        ∙ (λ t. past p (is t) (e t))
        ∙ sym (ap (around code) z ∙ around_next code p (get_or code p Again) (drop (p + 1) code) (drop_more code p Again lt))

    pub few_more : (A : ℕ → L) → unmarked ks ≡ around code p → ((q : ℕ) → length (around code q) ≤ 8) → length (opens K A ks p i) ≤ 8
    few_more A e few =
        let m = sym (as_long (opens K A ks p i)) ∙ ap length (around_more A e) in
        omega (arith, m, few (p + 1))

    pub sweep_more : (tables : ℕ → L) (S : ℕ → ℕ → L) → sweep K tables ks p (drop p code) S ≡ sweep K tables (opens K (S p) ks p i) (p + 1) (drop (p + 1) code) (flow K tables ks p i S)
    sweep_more tables S =
        let z : suc p ≡ p + 1 = omega arith in
        let j = get_or code p Again in
        let step : sweep K tables ks p (drop p code) S ≡ sweep K tables (opens K (S p) ks p j) (suc p) (drop (p + 1) code) (flow K tables ks p j S) = at_drop_more (λ is. sweep K tables ks p is S) code p Again lt in
        let y = sym is in
        step ∙ (λ t. sweep K tables (opens K (S p) ks p (y t)) (z t) (drop (p + 1) code) (flow K tables ks p (y t) S))

  pub sweep_end : (tables : ℕ → L) (code : List Instruction) (ks : List (Marked L)) (p : ℕ) (S : ℕ → ℕ → L) → length code ≤ p → sweep K tables ks p (drop p code) S ≡ S
  sweep_end tables code ks p S h = at_drop_all (λ is. sweep K tables ks p is S) code p h

  module _ (laws : Lawful K) (tables entry : ℕ → L) (code : List Instruction) (S : ℕ → ℕ → L) (start : S 0 ≡ entry) (others : (p : ℕ) → 0 < p → S p ≡ (λ r. K.least)) where
    below_all : (Z : ℕ → ℕ → L) → Solves K tables entry code Z → (p : ℕ) → Sub K (S p) (Z p)
    below_all Z z zero r = subst (λ A. Within K (A r) (Z 0 r)) (sym start) (z.start r)
    below_all Z z (suc p) r = subst (λ A. Within K (A r) (Z (suc p) r)) (sym (others (suc p) (omega arith))) (lowest K laws (Z (suc p) r))

    -- the entry labels at place 0 and the least elsewhere lie within every solution
    pub rising_from : Rising K tables entry code S
    rising_from = record { start = λ r. subst (λ A. Within K (entry r) (A r)) (sym start) (same K laws (entry r)); below = below_all }

pub rising_start : (tables : ℕ → Bool) (x : ℕ) (code : List Instruction) (l : List ℕ) → get_or l 0 0 ≡ x → ((k : ℕ) → 0 < k → ◌≡◌ {A = ℕ} (get_or l k 0) 0) → Rising secrecy tables (bits x) code (sets l)
rising_start tables x code l f g = rising_from secrecy plain tables (bits x) code (sets l) (ap bits f) (λ p h. ap bits (g p h) ∙ bits_zero)
