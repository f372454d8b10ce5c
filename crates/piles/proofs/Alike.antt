-- Accesses that an observer cannot tell apart.
use Rattle.std.proofs.Common.{◌≡◌, ℕ, ◌+◌, ◌-◌, ◌<◌, Bool, true, ◌&&◌, ltb, leb, List, ◌++◌, length, set, Some, None, Option, sym, refl, ap, ◌∙◌, subst, ap₂, arith, length-set}
use Rattle.std.proofs.lemmas.Bool.{lt-ltb}
use Rattle.program.specs.declared.refusal.Refusal.{Refusal}
use Rattle.program.specs.declared.refusal.Reason.TheVariants.{OutsideTable, NoRoomForMarks}
use Rattle.program.specs.Refusals.{unless, or_else}
use Rattle.memory.specs.declared.Access.{Access}
use Rattle.memory.specs.declared.Access.TheVariants.{Read, Write}
use Rattle.memory.specs.Description.{Mark, Rules, Description, marked}
use Rattle.memory.specs.Accesses.{denial, denied, left}
use Rattle.memory.specs.Laws.{Lawful}
use Rattle.memory.proofs.Accepted.{accepted_within}
use Rattle.memory.specs.declared.window.Window.{Window}
use Rattle.piles.specs.declared.operations.Operation.{Operation}
use Rattle.piles.specs.declared.operations.Operation.TheVariants.{Read as ReadAt, Write as WriteAt, Clear}
use Rattle.piles.specs.Operations.{leaves}
use Rattle.piles.specs.Pairs.{SameButCells, Touch, Beside, touched}

both_left : {a b : Description} → SameButCells a b → (x y : Option Refusal) → x ≡ y → (cells others : List ℕ) (xs ys : List Mark) → length cells ≡ length others → (x ≡ None → xs ≡ ys)
    → SameButCells (left x a (marked a cells xs)) (left y b (marked b others ys))
both_left s None None e cells others xs ys l shown = record { size = l; seen = ap₂ (λ m n. m ++ n) s.seen (shown refl); rules = s.rules }
both_left s None (Some f) e cells others xs ys l shown = absurd (let z : ◌≡◌ {A = ℕ} 0 1 = cc in omega arith)
both_left s (Some f) None e cells others xs ys l shown = absurd (let z : ◌≡◌ {A = ℕ} 0 1 = cc in omega arith)
both_left s (Some f) (Some g) e cells others xs ys l shown = s

-- offsets of which both lie in the table, or neither
both_denied : {a b : Description} → SameButCells a b → (k : Access) (base len i j : ℕ) → ltb i len ≡ ltb j len → denied a k base len i ≡ denied b k base len j
unfolding denial
both_denied {a} {b} s k base len i j e =
    let F : Bool → ℕ → Rules → List Mark → Option Refusal = λ t size r seen. or_else (unless (t && leb (base + len) size) OutsideTable 0) (unless (leb (r.cost k len) (r.limit - length seen)) NoRoomForMarks 0) in
    ap (λ t. F t (length a.cells) a.rules a.seen) e
    ∙ ap (λ n. F (ltb j len) n a.rules a.seen) s.size
    ∙ ap (λ r. F (ltb j len) (length b.cells) r a.seen) s.rules
    ∙ ap (F (ltb j len) (length b.cells) b.rules) s.seen

-- two offsets that what is shown does not tell apart
pub record Alike (d : Description) (k : Access) (base len i j : ℕ) : Type 0 where
  pub inside : ltb i len ≡ ltb j len
  pub shown : denied d k base len i ≡ None → d.rules.shows k base len i ≡ d.rules.shows k base len j

pub alike_same : (d : Description) (k : Access) (base len i j : ℕ) → i ≡ j → Alike d k base len i j
alike_same d k base len i j e = record { inside = ap (λ n. ltb n len) e; shown = λ _. ap (d.rules.shows k base len) e }

pub alike_hidden : (d : Description) → Lawful d → (k : Access) (base len i j : ℕ) → d.rules.hides ≡ true → i < len → j < len → Alike d k base len i j
alike_hidden d laws k base len i j hides p q = record {
  inside = lt-ltb i len p ∙ sym (lt-ltb j len q);
  shown = λ n. let w = (accepted_within d k base len i n).0 in laws.alike hides k base len i j w (record { below = q; fits = w.fits });
}

-- an access of each
both : {a b : Description} → SameButCells a b → (k : Access) (base len i j : ℕ) → Alike a k base len i j → (cells others : List ℕ) → length cells ≡ length others
    → SameButCells (left (denied a k base len i) a (marked a cells (a.rules.shows k base len i))) (left (denied b k base len j) b (marked b others (b.rules.shows k base len j)))
both {a} {b} s k base len i j alike cells others l =
    both_left s (denied a k base len i) (denied b k base len j) (both_denied s k base len i j alike.inside) cells others _ _ l
    (λ n. alike.shown n ∙ ap (λ r. r.shows k base len j) s.rules)

-- what one touch is, another is
module _ {x y : Touch} (e : Some x ≡ Some y) where
  same_touch : x ≡ y
  same_touch = cc

  kinds : x.kind ≡ y.kind
  kinds = ap (λ (z : Touch). z.kind) same_touch

  tables : x.table ≡ y.table
  tables = ap (λ (z : Touch). z.table) same_touch

  offs : x.off ≡ y.off
  offs = ap (λ (z : Touch). z.off) same_touch

  falls : y.off < y.table.length → x.off < x.table.length
  falls = subst (λ (z : Touch). z.off < z.table.length) (sym same_touch)

-- what two operations leave, by what they touch
module _ {a b : Description} (s : SameButCells a b) where
  reads : (t u : Window) (i j : ℕ) → t ≡ u → Alike a Read t.first t.length i j → SameButCells (leaves (ReadAt t i) a) (leaves (ReadAt u j) b)
  reads t u i j e alike =
      let P : Window → Type 0 = λ w. SameButCells (leaves (ReadAt t i) a) (leaves (ReadAt w j) b) in
      subst P e (both s Read t.first t.length i j alike a.cells b.cells s.size)

  writes : (t u : Window) (i j v w : ℕ) → t ≡ u → Alike a Write t.first t.length i j → SameButCells (leaves (WriteAt t i v) a) (leaves (WriteAt u j w) b)
  writes t u i j v w e alike =
      let P : Window → Type 0 = λ x. SameButCells (leaves (WriteAt t i v) a) (leaves (WriteAt x j w) b) in
      let l = length-set a.cells (t.first + i) v ∙ s.size ∙ sym (length-set b.cells (t.first + j) w) in
      subst P e (both s Write t.first t.length i j alike (set a.cells (t.first + i) v) (set b.cells (t.first + j) w) l)

  pub leaves_same : (p q : Operation) → touched p ≡ touched q → SameButCells (leaves p a) (leaves q b)
  leaves_same (ReadAt t i) (ReadAt u j) e = reads t u i j (tables e) (alike_same a Read t.first t.length i j (offs e))
  leaves_same (WriteAt t i v) (WriteAt u j w) e = writes t u i j v w (tables e) (alike_same a Write t.first t.length i j (offs e))
  leaves_same Clear Clear e = record { size = s.size; seen = refl; rules = s.rules }
  leaves_same (ReadAt t i) (WriteAt u j w) e = let k = kinds e in absurd (cc)
  leaves_same (ReadAt t i) Clear e = absurd (cc)
  leaves_same (WriteAt t i v) (ReadAt u j) e = let k = kinds e in absurd (cc)
  leaves_same (WriteAt t i v) Clear e = absurd (cc)
  leaves_same Clear (ReadAt u j) e = absurd (cc)
  leaves_same Clear (WriteAt u j w) e = absurd (cc)

  pub leaves_hidden : Lawful a → a.rules.hides ≡ true → (p q : Operation) → Beside p q → SameButCells (leaves p a) (leaves q b)
  leaves_hidden laws hides (ReadAt t i) (ReadAt u j) h =
      let same = tables h.at_i ∙ sym (tables h.at_j) in
      reads t u i j same (alike_hidden a laws Read t.first t.length i j hides (falls h.at_i h.i_below) (subst (λ (w : Window). j < w.length) (sym same) (falls h.at_j h.j_below)))
  leaves_hidden laws hides (WriteAt t i v) (WriteAt u j w) h =
      let same = tables h.at_i ∙ sym (tables h.at_j) in
      writes t u i j v w same (alike_hidden a laws Write t.first t.length i j hides (falls h.at_i h.i_below) (subst (λ (w : Window). j < w.length) (sym same) (falls h.at_j h.j_below)))
  leaves_hidden laws hides (ReadAt t i) (WriteAt u j w) h =
      let e = kinds h.at_i in
      let f = kinds h.at_j in
      absurd (cc)
  leaves_hidden laws hides (WriteAt t i v) (ReadAt u j) h =
      let e = kinds h.at_i in
      let f = kinds h.at_j in
      absurd (cc)
  leaves_hidden laws hides Clear q h = let e = h.at_i in absurd (cc)
  leaves_hidden laws hides (ReadAt t i) Clear h = let f = h.at_j in absurd (cc)
  leaves_hidden laws hides (WriteAt t i v) Clear h = let f = h.at_j in absurd (cc)

pub moved : {a b c d : Description} → a ≡ c → b ≡ d → SameButCells c d → SameButCells a b
moved {a} {b} {c} {d} p q s =
    let P : Description → Type 0 = λ x. SameButCells x d in
    let Q : Description → Type 0 = λ x. SameButCells a x in
    subst Q (sym q) (subst P (sym p) s)
