-- Labels that keep the rules keep them block by block, where no place is refused.
use Rattle.std.proofs.Common.{◌≡◌, ℕ, suc, Bool, true, false, cond, ◌||◌, List, [], ◌∷◌, drop, Some, None, Option, sym, refl, ap, ◌∙◌, subst}
use Rattle.std.proofs.lemmas.Bool.{false≢true}
use Rattle.instructions.specs.declared.Instruction.{Instruction}
use Rattle.instructions.specs.declared.Instruction.TheVariants.{Else, End, Again}
use Rattle.program.specs.declared.opening.Opening.{Opening}
use Rattle.program.specs.declared.opening.Opening.TheVariants.{Then, Otherwise, Loop}
use Rattle.program.specs.declared.opening.Marked.{Marked}
use Rattle.program.specs.declared.refusal.Refusal.{Refusal}
use Rattle.program.specs.declared.refusal.Reason.{Reason}
use Rattle.program.specs.declared.refusal.Reason.TheVariants.{SecretRepeat}
use Rattle.program.specs.Openings.{past, around}
use Rattle.program.specs.Blocks.{Block, done, one, if_then, if_else, loop, flat, fin}
use Rattle.program.proofs.Around.{drop_next, around_next, around_none}
use Rattle.program.proofs.Refusals.{no_some}
use Rattle.labels.specs.Kinds.{secrecy}
use Rattle.labels.specs.Rules.{Each, Sub, leaves, mask_of, marked, Along, else_ways, Keeps, Solves}
use Rattle.labels.specs.Passes.{opens}
use Rattle.masks.specs.Counts.{more, secrets_of}
use Rattle.conversion.specs.Trees.{Noted}
use Rattle.conversion.specs.Refusing.{wrong_op, wrong, or_later, first_wrong}
use Rattle.conversion.specs.Labelling.{masked_by, Labelled, Labellings}

more_masked : (c : Bool) (n : ℕ) → masked_by (more c n) ≡ (c || masked_by n)
more_masked true n = refl
more_masked false n = refl

-- a place is masked where there are secret ifs around it
masks : (ks : List (Marked Bool)) → mask_of secrecy ks ≡ masked_by (secrets_of ks)
masks [] = refl
masks (k ∷ ks) = ap (λ m. k.label || m) (masks ks) ∙ sym (more_masked k.label (secrets_of ks))

-- a repeat that is not refused is by a public register
public_repeat : (c : Bool) → cond c (Some SecretRepeat) None ≡ None → c ≡ false
public_repeat true h = absurd (no_some h)
public_repeat false h = refl

module _ (secret hidden : ℕ → Bool) where
  -- neither here nor later
  neither : (why : Option Reason) (p : ℕ) (later : Option Refusal) → or_later secret hidden why p later ≡ None → (why ≡ None) × (later ≡ None)
  neither None p later h = (refl, h)
  neither (Some why) p later h = absurd (no_some h)

  module _ (entry : ℕ → Bool) (S : ℕ → ℕ → Bool) (code : List Instruction) (solves : Solves secrecy secret entry code S) where
    -- the secret ifs among openings
    abbrev secret_ifs : List Opening → ℕ
    secret_ifs os = secrets_of (marked secrecy S os)

    -- where these instructions are left, these openings are around, and nothing from here on is refused
    record Place (os : List Opening) (p : ℕ) (is : List Instruction) : Type 0 where
      left : drop p code ≡ is
      inside : around code p ≡ os
      right : first_wrong secret hidden S (marked secrecy S os) p is ≡ None

    -- the rules of the instruction there
    keeps : {os : List Opening} {p : ℕ} {i : Instruction} {is : List Instruction} → Place os p (i ∷ is) → Keeps secrecy secret S (marked secrecy S os) p i
    keeps {os} {p} {i} {is} h = subst (λ js. Keeps secrecy secret S (marked secrecy S js) p i) h.inside (solves.rules p i is h.left)

    -- it is not refused
    lawful : {os : List Opening} {p : ℕ} {i : Instruction} {is : List Instruction} → Place os p (i ∷ is) → wrong secret hidden (S p) (mask_of secrecy (marked secrecy S os)) i ≡ None
    lawful {os} {p} {i} {is} h = (neither _ p _ h.right).0

    step : {os : List Opening} {p : ℕ} {i : Instruction} {is : List Instruction} → Place os p (i ∷ is) → opens secrecy (S p) (marked secrecy S os) p i ≡ marked secrecy S (past p i os)
        → Place (past p i os) (suc p) is
    step {os} {p} {i} {is} h e = record {
      left = drop_next code p i is h.left;
      inside = around_next code p i is h.left ∙ ap (past p i) h.inside;
      right = ap (λ ks. first_wrong secret hidden S ks (suc p) is) (sym e) ∙ (neither _ p _ h.right).1;
    }

    -- the moves that an else settles
    else_leads : (c : Bool) (q a p : ℕ) → Each (Along secrecy S) (else_ways (Then q a) c p) → Sub secrecy (S q) (S (suc p)) × (c ≡ true → Sub secrecy (S p) (S (suc p)))
    else_leads true q a p h = (h.0, λ e. h.1.0)
    else_leads false q a p h = (h.0, λ e. absurd (false≢true e))

    -- a block keeps them, and so does what comes after it
    passes : (b : Block Bool) (os : List Opening) (p : ℕ) (rest : List Instruction) → Noted S b p → Place os p (flat b rest) → Labelled secret hidden S (secret_ifs os) b p × Place os (fin b p) rest
    passes done os p rest n h = (tt, h)
    passes (one op b) os p rest n h =
        let x = passes b os (suc p) rest n (step h refl) in
        let m = masks (marked secrecy S os) in (
          (
            subst (λ c. wrong_op secret hidden (S p) c op ≡ None) m (lawful h),
            subst (λ c. Sub secrecy (leaves secrecy secret c op (S p)) (S (suc p))) m (keeps h),
            x.0,
          ),
          x.1,
        )
    passes (if_then c a t b) os p rest n h =
        let x = passes t (Then p a ∷ os) (suc p) (End ∷ flat b rest) n.1 (step h refl) in
        let y = passes b os (suc (fin t (suc p))) rest n.2 (step x.1 refl) in
        let k = keeps x.1 in
        ((n.0, (keeps h).0, k.0, subst (λ d. Labelled secret hidden S (more d (secret_ifs os)) t (suc p)) n.0 x.0, k.1.0, y.0), y.1)
    passes (if_else c a t e b) os p rest n h =
        let q = fin t (suc p) in
        let r = fin e (suc q) in
        let x = passes t (Then p a ∷ os) (suc p) (Else ∷ flat e (End ∷ flat b rest)) n.1 (step h refl) in
        let y = passes e (Otherwise p a q ∷ os) (suc q) (End ∷ flat b rest) n.2 (step x.1 refl) in
        let z = passes b os (suc r) rest n.3 (step y.1 refl) in
        let j = else_leads (S p a) p a q (keeps x.1) in
        let k = keeps y.1 in (
          (
            n.0,
            (keeps h).0,
            j.0,
            λ d. j.1 (n.0 ∙ d),
            k.0,
            subst (λ d. Labelled secret hidden S (more d (secret_ifs os)) t (suc p)) n.0 x.0,
            subst (λ d. Labelled secret hidden S (more d (secret_ifs os)) e (suc q)) n.0 y.0,
            k.1.0,
            z.0,
          ),
          z.1,
        )
    passes (loop a m t b) os p rest n h =
        let x = passes t (Loop p ∷ os) (suc p) (Again ∷ flat b rest) n.0 (step h refl) in
        let y = passes b os (suc (fin t (suc p))) rest n.1 (step x.1 refl) in
        let k = keeps x.1 in
        ((public_repeat (S p a) (lawful h), (keeps h).0, k.1.1.0, k.0, k.1.0, x.0, y.0), y.1)

pub labellings : Labellings
labellings secret hidden entry S b n solves h =
    (passes secret hidden entry S (flat b []) solves b [] 0 [] n (record { left = refl; inside = sym (around_none (flat b [])); right = h })).0
