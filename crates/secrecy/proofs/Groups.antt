-- What each op becomes carries the labels that the op's rule gives.
use Rattle.std.proofs.Common.{◌≡◌, ℕ, zero, suc, ◌+◌, ◌<◌, ◌≤◌, Bool, true, false, cond, ◌||◌, ◌==◌, nat_lt, ltb-true, lt-ltb, le-ltb, true≢false, ◌++◌, Some, None, Option, sym, refl, ap, ◌∙◌, subst, arith}
use Rattle.std.proofs.lemmas.Bool.{or_from}
use Rattle.instructions.specs.declared.BinaryOp.TheVariants.{Below}
use Rattle.instructions.specs.declared.Value.{Value}
use Rattle.instructions.specs.declared.Value.TheVariants.{Const, Move, Binary, Shift}
use Rattle.instructions.specs.declared.Op.{Op}
use Rattle.instructions.specs.declared.Op.TheVariants.{Set, Pick, Load, Store}
use Rattle.program.specs.Blocks.{Block, one}
use Rattle.labels.specs.Kinds.{secrecy}
use Rattle.labels.specs.Rules.{Sub, read_by, leaves, put}
use Rattle.machine.specs.Fits.{FitValue, FitOp}
use Rattle.groups.specs.Groups.{mask_at, and_mask, set_group, pick_group, in_range, first_bad, guard_mark, guard, load_end, exchange, store_end, op_group, if_group, else_group}
use Rattle.conversion.specs.Refusing.{wrong_op}
use Rattle.conversion.specs.Trees.{ops}
use Rattle.conversion.specs.Labelling.{masked_by}
use Rattle.secrecy.specs.Carried.{Carried}
use Rattle.secrecy.specs.Converted.{wide}
use Rattle.secrecy.proofs.Public.{Public, publics, sub, cond_public}
use Rattle.secrecy.proofs.Passing.{Hides, Shows, load_passes, load_passing, store_passes, store_passing}
use Rattle.secrecy.proofs.Steps.{put_either, put_again, ops_append, step, scratch}

pub wide_low : (A : ℕ → Bool) (r : ℕ) → r < 16 → wide A r ≡ A r
wide_low A r h = ap (λ c. cond c (A r) true) (lt-ltb r 16 h)

pub wide_high : (A : ℕ → Bool) (n : ℕ) → wide A (16 + n) ≡ true
wide_high A n = ap (λ c. cond c (A (16 + n)) true) (le-ltb (16 + n) 16 (omega arith))

-- what is public in the wider set is a register below 16
wide_public : (A : ℕ → Bool) (r : ℕ) → wide A r ≡ false → (r < 16) × (A r ≡ false)
wide_public A r e = low (nat_lt r 16) refl e
  where
    low : (c : Bool) → nat_lt r 16 ≡ c → cond c (A r) true ≡ false → (r < 16) × (A r ≡ false)
    low true f g = (ltb-true r 16 f, g)
    low false f g = absurd (true≢false g)

pub wide_sub : (A B : ℕ → Bool) → Sub secrecy A B → Sub secrecy (wide A) (wide B)
wide_sub A B h = sub (wide A) (wide B) (λ r e. let p = wide_public B r e in wide_low A r p.0 ∙ publics A B h r p.1)

module _ (A : ℕ → Bool) where
  -- C has the registers below 16 as A has them
  abbrev Over : (ℕ → Bool) → Type 0
  Over C = (r : ℕ) → r < 16 → C r ≡ A r

  over_wide : Over (wide A)
  over_wide r h = wide_low A r h

  over_put : (C : ℕ → Bool) (d : ℕ) (l : Bool) → 16 ≤ d → Over C → Over (put secrecy C d l)
  over_put C d l g o r h = put_either C d l (A r) r (λ e. absurd (omega arith)) (λ e. o r h)

  read_over : (C : ℕ → Bool) (v : Value) → Over C → FitValue 16 v → read_by secrecy v C ≡ read_by secrecy v A
  read_over C (Const k) o f = refl
  read_over C (Move a) o f = o a f
  read_over C (Binary op a b) o f = rw (o a f.0, o b f.1)
  read_over C (Shift op a k) o f = o a f.0

  -- a group's last write, where the rule gives the target at least that label
  closes : (C Z : ℕ → Bool) (d : ℕ) (l m : Bool) → Over C → Public (put secrecy A d m) Z → (m ≡ false → l ≡ false) → Public (put secrecy C d l) (wide Z)
  closes C Z d l m o h f r e =
      let p = wide_public Z r e in
      cond_public (r == d) l (C r) m (A r) f (λ q. o r p.0 ∙ q) (h r p.1)

  -- 25 and 26 know of the index, and no more
  abbrev indexed : Bool → ℕ → Bool
  indexed c = put secrecy (put secrecy (wide A) 25 c) 26 c

  over_indexed : (c : Bool) → Over (indexed c)
  over_indexed c = over_put (put secrecy (wide A) 25 c) 26 c (omega arith) (over_put (wide A) 25 c (omega arith) over_wide)

  module _ (secret hidden : ℕ → Bool) (B : ℕ → Bool) where
    -- a block that may follow where the registers of C are secret
    abbrev After : (ℕ → Bool) → Block Bool → Type 0
    After C k = Carried secret hidden C k B

    in_range_carries : (t a : ℕ) (k : Block Bool) → a < 16 → After (indexed (A a)) k → After (wide A) (ops (in_range t a) k)
    in_range_carries t a k h c =
        let W = wide A in
        let l = A a in
        let C = put secrecy W 25 l in
        let D = put secrecy C 26 false in
        let o1 = over_put W 25 false (omega arith) over_wide in
        let o3 = over_put C 26 false (omega arith) (over_put W 25 l (omega arith) over_wide) in
        let k3 = one (Pick 26 25 a) k in
        let k2 = one (Set 26 (Const 0)) k3 in
        let c3 : After D k3 =
        step secret hidden k B (Pick 26 25 a) D (indexed l) refl (put_again C 26 false _ l (λ e. or_from (D 26) (D 25 || D a) refl (or_from l (D a) e (o3 a h ∙ e)))) c in
        let c1 : After (put secrecy W 25 false) (one (Set 25 (Binary Below a 25)) k2) =
        step secret hidden k2 B (Set 25 (Binary Below a 25)) (put secrecy W 25 false) C refl
        (put_again W 25 false _ l (λ e. or_from (put secrecy W 25 false a) (put secrecy W 25 false 25) (o1 a h ∙ e) refl)) (refl, c3) in
        (refl, c1)

    -- the flags of a bad index and the first bad place are secret in any case
    flags_carry : (mask : Option ℕ) (p : ℕ) (c : Bool) (k : Block Bool) → After (indexed c) k → After (indexed c) (ops (first_bad ++ (and_mask mask 27 ++ guard_mark p)) k)
    flags_carry None p c k h = scratch secret hidden (first_bad ++ guard_mark p) k (indexed c) B (refl, (refl, (refl, (refl, (refl, (refl, tt)))))) h
    flags_carry (Some m) p c k h = scratch secret hidden (first_bad ++ (and_mask (Some m) 27 ++ guard_mark p)) k (indexed c) B (refl, (refl, (refl, (refl, (refl, (refl, (refl, tt))))))) h

    guard_carries : (mask : Option ℕ) (t p a : ℕ) (k : Block Bool) → a < 16 → After (indexed (A a)) k → After (wide A) (ops (guard mask t p a) k)
    guard_carries mask t p a k h c = in_range_carries t a (ops (first_bad ++ (and_mask mask 27 ++ guard_mark p)) k) h (flags_carry mask p (A a) k c)

    module _ (Z : ℕ → Bool) (k : Block Bool) (c : After (wide Z) k) where
      -- behind a mask, or in front of k
      masked_carries : (s d : ℕ) (v : Value) → FitValue 16 v → Public (leaves secrecy secret (masked_by s) (Set d v) A) Z → After (wide A) (ops (set_group (mask_at s) d v) k)
      masked_carries zero d v f h =
          step secret hidden k B (Set d v) (wide A) (wide Z) refl (closes (wide A) Z d _ (read_by secrecy v A) over_wide h (λ e. read_over (wide A) v over_wide f ∙ e)) c
      masked_carries (suc n) d v f h =
          (refl, step secret hidden k B (Pick d (16 + n) 25) _ (wide Z) refl (closes _ Z d _ true (over_put (wide A) 25 _ (omega arith) over_wide) h (λ e. absurd (true≢false e))) c)

      pick_carries : (s d a b : ℕ) → d < 16 → a < 16 → b < 16 → Public (leaves secrecy secret (masked_by s) (Pick d a b) A) Z → After (wide A) (ops (pick_group (mask_at s) d a b) k)
      pick_carries zero d a b hd ha hb h =
          let W = wide A in
          step secret hidden k B (Pick d a b) W (wide Z) refl
          (closes W Z d _ (A d || (A a || A b)) over_wide h (λ e. rw (over_wide d hd, over_wide a ha, over_wide b hb) e)) c
      pick_carries (suc n) d a b hd ha hb h =
          let o1 = over_put (wide A) 25 _ (omega arith) over_wide in
          (refl, (refl, step secret hidden k B (Pick d (16 + n) 25) _ (wide Z) refl (closes _ Z d _ true (over_put _ 25 _ (omega arith) o1) h (λ e. absurd (true≢false e))) c))

      load_carries : (s d a b : ℕ) (C : ℕ → Bool) → Over C → C 26 ≡ A a → Hides secret hidden A a b → Public (leaves secrecy secret (masked_by s) (Load d a b) A) Z → After C (ops (load_end (mask_at s) d b) k)
      load_carries zero d a b C o i g h =
          step secret hidden k B (Load d 26 b) C (wide Z) (load_passing secret hidden C false d 26 b (λ e. g (sym i ∙ e)))
          (closes C Z d (C 26 || secret b) (A a || secret b) o h (λ e. ap (λ x. x || secret b) i ∙ e)) c
      load_carries (suc n) d a b C o i g h = (
        load_passing secret hidden C false 25 26 b (λ e. g (sym i ∙ e)),
        step secret hidden k B (Pick d (16 + n) 25) _ (wide Z) refl (closes _ Z d _ true (over_put C 25 _ (omega arith) o) h (λ e. absurd (true≢false e))) c,
      )

      exchange_carries : (d a b : ℕ) (C : ℕ → Bool) → d < 16 → Over C → C 26 ≡ A a → Hides secret hidden A a b
          → (secret b ≡ false → (C 25 ≡ false) × (A d ≡ false) × (A a ≡ false)) → Public A Z → After C (ops (exchange d b) k)
      exchange_carries d a b C hd o i g f h =
          let C1 = put secrecy C 27 (C 26 || secret b) in
          let C2 = put secrecy C1 27 (C1 27 || (C1 25 || C1 d)) in
          let o1 = over_put C 27 (C 26 || secret b) (omega arith) o in
          let o2 = over_put C1 27 (C1 27 || (C1 25 || C1 d)) (omega arith) o1 in
          let shows : Shows secret hidden C2 false 27 26 b =
          λ q.
          let z = f q in
          let y : C 26 ≡ false = i ∙ z.2 in
          (refl, or_from (C 26 || secret b) (C 25 || C1 d) (or_from (C 26) (secret b) y q) (or_from (C 25) (C1 d) z.0 (o1 d hd ∙ z.1)), y) in (
            load_passing secret hidden C false 27 26 b (λ e. g (sym i ∙ e)),
            (
              refl,
              step secret hidden k B (Store 27 26 b) C2 (wide Z) (store_passing secret hidden C2 false 27 26 b (λ e. g (sym i ∙ e)) shows)
                  (λ r e. let p = wide_public Z r e in o2 r p.0 ∙ h r p.1) c,
            ),
          )

      store_carries : (s d a b : ℕ) → d < 16 → Hides secret hidden A a b → Shows secret hidden A (masked_by s) d a b → Public A Z → After (indexed (A a)) (ops (store_end (mask_at s) d b) k)
      store_carries zero d a b hd g f h =
          exchange_carries d a b (indexed (A a)) hd (over_indexed (A a)) refl g (λ q. let z = f q in (z.2, z.1, z.2)) h
      store_carries (suc n) d a b hd g f h =
          let C = put secrecy (indexed (A a)) 25 _ in
          (refl, exchange_carries d a b C hd (over_put (indexed (A a)) 25 _ (omega arith) (over_indexed (A a))) refl g (λ q. let z = f q in absurd (true≢false z.0)) h)

      pub op_carries : (long : ℕ → ℕ) (used s p : ℕ) (op : Op) → FitOp 16 used op → wrong_op secret hidden A (masked_by s) op ≡ None
          → Sub secrecy (leaves secrecy secret (masked_by s) op A) Z → After (wide A) (ops (op_group long (mask_at s) p op) k)
      op_carries long used s p (Set d v) f w h = masked_carries s d v f.1 (publics _ Z h)
      op_carries long used s p (Pick d a b) f w h = pick_carries s d a b f.0 f.1 f.2 (publics _ Z h)
      op_carries long used s p (Load d a b) f w h =
          subst (After (wide A)) (sym (ops_append (guard (mask_at s) (long b) p a) (load_end (mask_at s) d b) k))
          (guard_carries (mask_at s) (long b) p a _ f.1
          (load_carries s d a b (indexed (A a)) (over_indexed (A a)) refl (load_passes secret hidden A (masked_by s) d a b w) (publics _ Z h)))
      op_carries long used s p (Store d a b) f w h =
          let z = store_passes secret hidden A (masked_by s) d a b w in
          subst (After (wide A)) (sym (ops_append (guard (mask_at s) (long b) p a) (store_end (mask_at s) d b) k))
          (guard_carries (mask_at s) (long b) p a _ f.1 (store_carries s d a b f.0 z.0 z.1 (publics _ Z h)))

    -- a mask is secret in any case
    pub if_carries : (s a : ℕ) (k : Block Bool) → After (wide A) k → After (wide A) (ops (if_group (mask_at s) (16 + s) a) k)
    if_carries zero a k c = scratch secret hidden (if_group None 16 a) k (wide A) B (refl, (refl, (refl, tt))) c
    if_carries (suc n) a k c = scratch secret hidden (if_group (mask_at (suc n)) (16 + suc n) a) k (wide A) B (refl, (refl, (wide_high A (suc n), (wide_high A (suc n), tt)))) c

    pub else_carries : (s : ℕ) (k : Block Bool) → After (wide A) k → After (wide A) (ops (else_group (mask_at s) (16 + s)) k)
    else_carries zero k c = scratch secret hidden (else_group None 16) k (wide A) B (refl, (refl, tt)) c
    else_carries (suc n) k c = scratch secret hidden (else_group (mask_at (suc n)) (16 + suc n)) k (wide A) B (wide_high A (suc n), tt) c
