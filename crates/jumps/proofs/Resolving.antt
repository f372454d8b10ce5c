-- The pass from the end that finds each jump.
use Rattle.std.proofs.Common.{◌≡◌, ℕ, suc, ◌+◌, ◌<◌, ◌≤◌, false, cond, ◌≢◌, List, [], ◌∷◌, ◌++◌, length, get_or, drop, set, None, sym, refl, ap, ◌∙◌, subst, ⊎_elim, add-one, append_assoc, arith, length-drop, length-append}
use Rattle.std.specs.List.{push}
use Rattle.std.proofs.Math.Seq.{drop-append_seam}
use Rattle.std.proofs.lemmas.List.{get_or-set_same, get_or-set_other, drop_all}
use Rattle.std.proofs.lemmas.Bool.{cases_order, lt-ltb}
use Rattle.instructions.specs.declared.Op.{Op}
use Rattle.instructions.specs.declared.Instruction.{Instruction}
use Rattle.instructions.specs.declared.Instruction.TheVariants.{Do, If, Else, End, Repeat, Again}
use Rattle.program.specs.declared.opening.Opening.{Opening}
use Rattle.program.specs.declared.opening.Opening.TheVariants.{Then, Otherwise, Loop}
use Rattle.program.specs.Pairing.{pairing}
use Rattle.machine.specs.Machine.{closing, other, after_else}
use Rattle.program.proofs.Refusals.{no_some, opens}
use Rattle.machine.proofs.Around.{closers, closers_open, around}
use Rattle.jumps.specs.declared.Closer.{Closer}
use Rattle.jumps.specs.Jumps.{Jumps, closer, met, Noted}

-- what an instruction needs of the closing brackets that were met
abbrev Wants : Instruction → List Closer → Type 0
Wants (Do op) cs = Unit {0}
Wants (If a) cs = 0 < length cs
Wants Else cs = 0 < length cs
Wants End cs = length cs < 8
Wants (Repeat a k) cs = 0 < length cs
Wants Again cs = length cs < 8

wanted : (i : Instruction) (is : List Instruction) (cs : List Closer) (p : ℕ) (os : List Opening) → pairing os p (i ∷ is) ≡ None → length os ≤ 8 → length cs ≡ closers is → Wants i cs
wanted (Do op) is cs p os h l e = tt
wanted (If a) is cs p os h l e = let q = closers_open is (suc p) (Then p a ∷ os) (opens os p h).1 in omega arith
wanted Else is cs p [] h l e = absurd (no_some h)
wanted Else is cs p (Then q a ∷ os) h l e = let c = closers_open is (suc p) (Otherwise q a p ∷ os) h in omega arith
wanted Else is cs p (Otherwise q a m ∷ os) h l e = absurd (no_some h)
wanted Else is cs p (Loop q ∷ os) h l e = absurd (no_some h)
wanted End is cs p [] h l e = absurd (no_some h)
wanted End is cs p (Then q a ∷ os) h l e = let c = closers_open is (suc p) os h in omega arith
wanted End is cs p (Otherwise q a m ∷ os) h l e = let c = closers_open is (suc p) os h in omega arith
wanted End is cs p (Loop q ∷ os) h l e = absurd (no_some h)
wanted (Repeat a k) is cs p os h l e = let q = closers_open is (suc p) (Loop p ∷ os) (opens os p h).1 in omega arith
wanted Again is cs p [] h l e = absurd (no_some h)
wanted Again is cs p (Then q a ∷ os) h l e = absurd (no_some h)
wanted Again is cs p (Otherwise q a m ∷ os) h l e = absurd (no_some h)
wanted Again is cs p (Loop q ∷ os) h l e = let c = closers_open is (suc p) os h in omega arith

met_room : (c : Closer) (cs : List Closer) → length cs < 8 → met c cs ≡ c ∷ cs
met_room c cs h = ap (λ b. cond b (c ∷ cs) cs) (lt-ltb (length cs) 8 h)

module _ (code : List Instruction) where
  -- the closing brackets met are those of the openings around place p, from the j-th on
  abbrev Closes : ℕ → ℕ → List Instruction → List Closer → Type 0
  Closes j p is [] = Unit {0}
  Closes j p is (c ∷ cs) = (c.other ≡ other code j p is) × (c.close ≡ closing false j p is) × (c.after ≡ suc (closing false j p is)) × Closes (suc j) p is cs

  by_do : (j p : ℕ) (op : Op) (is : List Instruction) (cs : List Closer) → Closes j (suc p) is cs → Closes j p (Do op ∷ is) cs
  by_do j p op is [] h = tt
  by_do j p op is (c ∷ cs) h = (h.0, h.1, h.2, by_do (suc j) p op is cs h.3)

  by_if : (j p a : ℕ) (is : List Instruction) (cs : List Closer) → Closes (suc j) (suc p) is cs → Closes j p (If a ∷ is) cs
  by_if j p a is [] h = tt
  by_if j p a is (c ∷ cs) h = (h.0, h.1, h.2, by_if (suc j) p a is cs h.3)

  by_repeat : (j p a k : ℕ) (is : List Instruction) (cs : List Closer) → Closes (suc j) (suc p) is cs → Closes j p (Repeat a k ∷ is) cs
  by_repeat j p a k is [] h = tt
  by_repeat j p a k is (c ∷ cs) h = (h.0, h.1, h.2, by_repeat (suc j) p a k is cs h.3)

  by_else : (j p : ℕ) (is : List Instruction) (cs : List Closer) → Closes (suc j) (suc p) is cs → Closes (suc j) p (Else ∷ is) cs
  by_else j p is [] h = tt
  by_else j p is (c ∷ cs) h = (h.0, h.1, h.2, by_else (suc j) p is cs h.3)

  by_end : (j p : ℕ) (is : List Instruction) (cs : List Closer) → Closes j (suc p) is cs → Closes (suc j) p (End ∷ is) cs
  by_end j p is [] h = tt
  by_end j p is (c ∷ cs) h = (h.0, h.1, h.2, by_end (suc j) p is cs h.3)

  by_again : (j p : ℕ) (is : List Instruction) (cs : List Closer) → Closes j (suc p) is cs → Closes (suc j) p (Again ∷ is) cs
  by_again j p is [] h = tt
  by_again j p is (c ∷ cs) h = (h.0, h.1, h.2, by_again (suc j) p is cs h.3)

  -- the jumps are right from place p on
  abbrev Right : ℕ → List ℕ → Type 0
  Right p js = (q : ℕ) (i : Instruction) (is : List Instruction) → p ≤ q → drop q code ≡ i ∷ is → Jumps code (get_or js q 0) q i is

  -- the pass has come down to place p
  pub record Passed (p : ℕ) (cs : List Closer) (js : List ℕ) : Type 0 where
    pub long : length js ≡ 3000
    pub deep : length cs ≡ closers (drop p code)
    pub closes : Closes 0 p (drop p code) cs
    pub right : Right p js

  closes_more : (p : ℕ) (i : Instruction) (is : List Instruction) (cs : List Closer) (js : List ℕ) (cs' : List Closer) (js' : List ℕ)
      → drop p code ≡ i ∷ is → Wants i cs → Noted i p cs js cs' js' → Closes 0 (suc p) is cs → Closes 0 p (i ∷ is) cs'
  closes_more p (Do op) is cs js cs' js' e w n h = subst (Closes 0 p (Do op ∷ is)) (sym n.0) (by_do 0 p op is cs h)
  closes_more p (If a) is [] js cs' js' e w n h = absurd (omega arith)
  closes_more p (If a) is (c ∷ cs) js cs' js' e w n h = subst (Closes 0 p (If a ∷ is)) (sym n.0) (by_if 0 p a is cs h.3)
  closes_more p Else is [] js cs' js' e w n h = absurd (omega arith)
  closes_more p Else is (c ∷ cs) js cs' js' e w n h =
      subst (Closes 0 p (Else ∷ is)) (sym n.0) (add-one p ∙ sym (ap (λ l. after_else l p) e), h.1, h.2, by_else 0 p is cs h.3)
  closes_more p End is cs js cs' js' e w n h =
      subst (Closes 0 p (End ∷ is)) (sym (n.0 ∙ met_room (closer p p (p + 1)) cs w)) (sym (ap (λ l. after_else l p) e), refl, add-one p, by_end 0 p is cs h)
  closes_more p (Repeat a k) is [] js cs' js' e w n h = absurd (omega arith)
  closes_more p (Repeat a k) is (c ∷ cs) js cs' js' e w n h = subst (Closes 0 p (Repeat a k ∷ is)) (sym n.0) (by_repeat 0 p a k is cs h.3)
  closes_more p Again is cs js cs' js' e w n h =
      subst (Closes 0 p (Again ∷ is)) (sym (n.0 ∙ met_room (closer p p (p + 1)) cs w)) (sym (ap (λ l. after_else l p) e), refl, add-one p, by_again 0 p is cs h)

  deep_more : (p : ℕ) (i : Instruction) (is : List Instruction) (cs : List Closer) (js : List ℕ) (cs' : List Closer) (js' : List ℕ)
      → Wants i cs → Noted i p cs js cs' js' → length cs ≡ closers is → length cs' ≡ closers (i ∷ is)
  deep_more p (Do op) is cs js cs' js' w n h = ap length n.0 ∙ h
  deep_more p (If a) is [] js cs' js' w n h = absurd (omega arith)
  deep_more p (If a) is (c ∷ cs) js cs' js' w n h = let e = ap length n.0 in omega arith
  deep_more p Else is [] js cs' js' w n h = absurd (omega arith)
  deep_more p Else is (c ∷ cs) js cs' js' w n h = let e = ap length n.0 in omega arith
  deep_more p End is cs js cs' js' w n h = let e = ap length (n.0 ∙ met_room (closer p p (p + 1)) cs w) in omega arith
  deep_more p (Repeat a k) is [] js cs' js' w n h = absurd (omega arith)
  deep_more p (Repeat a k) is (c ∷ cs) js cs' js' w n h = let e = ap length n.0 in omega arith
  deep_more p Again is cs js cs' js' w n h = let e = ap length (n.0 ∙ met_room (closer p p (p + 1)) cs w) in omega arith

  -- the instruction at p is the one at q
  at_same : (v p q : ℕ) (i i' : Instruction) (is is' : List Instruction) → p ≡ q → drop p code ≡ i ∷ is → drop q code ≡ i' ∷ is' → Jumps code v p i is → Jumps code v q i' is'
  at_same v p q i i' is is' s e e' h =
      let e2 : i ∷ is ≡ i' ∷ is' = sym e ∙ (ap (λ x. drop x code) s ∙ e') in
      let ei : i ≡ i' = cc in
      let es : is ≡ is' = cc in
      let j1 : Jumps code v p i' is = subst (λ (x : Instruction). Jumps code v p x is) ei h in
      let j2 : Jumps code v p i' is' = subst (λ (x : List Instruction). Jumps code v p i' x) es j1 in
      subst (λ x. Jumps code v x i' is') s j2

  -- a write at p of what it jumps to
  put : (p v : ℕ) (i : Instruction) (is : List Instruction) (js js' : List ℕ) → drop p code ≡ i ∷ is → p < length js → js' ≡ set js p v → Jumps code v p i is → Right (suc p) js → Right p js'
  put p v i is js js' e l w h r q i' is' g e' =
      ⊎_elim
      (λ (s : p ≡ q).
      let v1 : get_or js' q 0 ≡ v = ap (λ x. get_or x q 0) w ∙ (ap (λ x. get_or (set js p v) x 0) (sym s) ∙ get_or-set_same js p v 0 l) in
      subst (λ x. Jumps code x q i' is') (sym v1) (at_same v p q i i' is is' s e e' h))
      (⊎_elim
      (λ (s : p < q).
      let ne : q ≢ p = (λ z. omega arith) in
      let v1 : get_or js' q 0 ≡ get_or js q 0 = ap (λ x. get_or x q 0) w ∙ get_or-set_other js p q v 0 ne in
      subst (λ x. Jumps code x q i' is') (sym v1) (r q i' is' s e'))
      (λ (s : q < p). absurd (omega arith)))
      (cases_order p q)

  -- nothing to write
  keep : (p : ℕ) (i : Instruction) (is : List Instruction) (js js' : List ℕ) → drop p code ≡ i ∷ is → js' ≡ js → ((v : ℕ) → Jumps code v p i is) → Right (suc p) js → Right p js'
  keep p i is js js' e w h r q i' is' g e' =
      ⊎_elim (λ (s : p ≡ q). at_same (get_or js' q 0) p q i i' is is' s e e' (h (get_or js' q 0)))
      (⊎_elim
      (λ (s : p < q). subst (λ (x : List ℕ). Jumps code (get_or x q 0) q i' is') (sym w) (r q i' is' s e'))
      (λ (s : q < p). absurd (omega arith)))
      (cases_order p q)

  right_more : (p : ℕ) (i : Instruction) (is : List Instruction) (cs : List Closer) (js : List ℕ) (cs' : List Closer) (js' : List ℕ)
      → drop p code ≡ i ∷ is → p < length js → Wants i cs → Noted i p cs js cs' js' → Closes 0 (suc p) is cs → Right (suc p) js → Right p js'
  right_more p (Do op) is cs js cs' js' e l w n h r = keep p (Do op) is js js' e n.1 (λ v. tt) r
  right_more p (If a) is [] js cs' js' e l w n h r = absurd (omega arith)
  right_more p (If a) is (c ∷ cs) js cs' js' e l w n h r = put p c.other (If a) is js js' e l n.1 h.0 r
  right_more p Else is [] js cs' js' e l w n h r = absurd (omega arith)
  right_more p Else is (c ∷ cs) js cs' js' e l w n h r = put p c.close Else is js js' e l n.1 h.1 r
  right_more p End is cs js cs' js' e l w n h r = keep p End is js js' e n.1 (λ v. tt) r
  right_more p (Repeat a k) is [] js cs' js' e l w n h r = absurd (omega arith)
  right_more p (Repeat a k) is (c ∷ cs) js cs' js' e l w n h r = put p c.after (Repeat a k) is js js' e l n.1 h.2 r
  right_more p Again is cs js cs' js' e l w n h r = keep p Again is js js' e n.1 (λ v. tt) r

  pub pass_none : (n : ℕ) (cs : List Closer) (js : List ℕ) → n ≡ length code → cs ≡ [] → length js ≡ 3000 → Passed n cs js
  pass_none n cs js e s l =
      let d : drop n code ≡ [] = drop_all n code (omega arith) in
      record {
        long = l;
        deep = ap length s ∙ sym (ap closers d);
        closes = subst (Closes 0 n (drop n code)) (sym s) tt;
        right = λ q i is g f. (let k = ap length f in let m = length-drop q code in absurd (omega arith));
      }

  pass_more : pairing [] 0 code ≡ None → {place p : ℕ} {i : Instruction} {cs : List Closer} {js : List ℕ} {cs' : List Closer} {js' : List ℕ}
      → p + 1 ≡ place → drop p code ≡ i ∷ drop (p + 1) code → p < length code → p < 3000
      → Passed place cs js → length js' ≡ 3000 → Noted i p cs js cs' js' → Passed p cs' js'
  pass_more pairs {place} {p} {i} {cs} {js} {cs'} {js'} e h l m s w n =
      let is = drop (p + 1) code in
      let es : suc p ≡ place = omega arith in
      let eq : drop place code ≡ is = ap (λ x. drop x code) (sym e) in
      let cl : Closes 0 (suc p) is cs = subst (λ x. Closes 0 x is cs) (sym es) (subst (λ (x : List Instruction). Closes 0 place x cs) eq s.closes) in
      let dp : length cs ≡ closers is = s.deep ∙ ap closers eq in
      let lt : p < length js = (let k = s.long in omega arith) in
      let b = around code pairs p (omega arith) in
      let wa = wanted i is cs b.place b.openings (ap (pairing b.openings b.place) (sym h) ∙ b.pairs) b.few dp in
      record {
        long = w;
        deep = deep_more p i is cs js cs' js' wa n dp ∙ sym (ap closers h);
        closes = subst (λ (x : List Instruction). Closes 0 p x cs') (sym h) (closes_more p i is cs js cs' js' h wa n cl);
        right = right_more p i is cs js cs' js' h lt wa n cl (subst (λ x. Right x js) (sym es) s.right);
      }

  -- the last of the first instructions
  front_last : {rest : List Instruction} (front : List Instruction) (i : Instruction) → rest ++ drop (length rest) code ≡ code → rest ≡ push front i
      → (front ++ drop (length front) code ≡ code) × (drop (length front) code ≡ i ∷ drop (length front + 1) code) × (length front + 1 ≡ length rest)
  front_last {rest} front i f e =
      let more = drop (length rest) code in
      let long : length front + 1 ≡ length rest = sym (ap length e ∙ length-append front (i ∷ [])) in
      let whole : front ++ (i ∷ more) ≡ code = sym (append_assoc front (i ∷ []) more) ∙ (ap (λ l. l ++ more) (sym e) ∙ f) in
      let here : drop (length front) code ≡ i ∷ more = ap (drop (length front)) (sym whole) ∙ drop-append_seam front (i ∷ more) in
      (ap (λ l. front ++ l) here ∙ whole, here ∙ ap (λ n. i ∷ drop n code) (sym long), long)

  -- the pass goes on with the last of the instructions that are left
  pub pass_turn : pairing [] 0 code ≡ None → length code ≤ 3000 → {rest : List Instruction} (front : List Instruction) {p : ℕ} (i : Instruction) {cs : List Closer} {js : List ℕ} {cs' : List Closer} {js' : List ℕ}
      → rest ++ drop (length rest) code ≡ code → rest ≡ push front i → p ≡ length front → Passed (length rest) cs js → length js' ≡ 3000 → Noted i p cs js cs' js'
      → (front ++ drop (length front) code ≡ code) × Passed (length front) cs' js'
  pass_turn pairs short {rest} front {p} i {cs} {js} {cs'} {js'} f e at s w n =
      let l = front_last front i f e in
      let lt : length front < length code = (let k = length-append rest (drop (length rest) code) in let g = ap length f in let h = l.2 in omega arith) in
      (l.0, pass_more pairs l.2 l.1 lt (omega arith) s w (subst (λ q. Noted i q cs js cs' js') at n))

  pub pass_all : {n : ℕ} {cs : List Closer} {js : List ℕ} → n ≤ 0 → Passed n cs js → (q : ℕ) (i : Instruction) (is : List Instruction) → drop q code ≡ i ∷ is → Jumps code (get_or js q 0) q i is
  pass_all h s q i is e = s.right q i is (omega arith) e
