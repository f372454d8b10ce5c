-- The accesses of one turn below.
use Rattle.std.proofs.Common.{◌≡◌, ℕ, ◌+◌, ◌*◌, ◌<◌, ◌≤◌, cond, eqb, List, ◌++◌, length, get_or, set, Ok, Result, sym, ap, ◌∙◌, append_assoc, add-one, arith, length-append}
use Rattle.memory.specs.declared.Access.TheVariants.{Read, Write}
use Rattle.memory.specs.Description.{Mark, Description, free, marked}
use Rattle.memory.specs.Accesses.{read_answer, read_after, write_answer, write_after}
use Rattle.memory.specs.Laws.{Within, Lawful}
use Rattle.memory.proofs.Accepted.{read_answers, read_leaves, write_answers, write_leaves}
use Rattle.full_scan.specs.Scan.{turns, turn_cost}
use Rattle.full_scan.specs.Costs.{turn_room}
use Rattle.full_scan.proofs.Rewrites.{rewritten, rewritten_next, length-rewritten}

pub ok_same : {X Y : Type 0} {r : Result X Y} {x y : X} → r ≡ Ok x → r ≡ Ok y → x ≡ y
ok_same p q = cc

marked_twice : (d : Description) (some more : List ℕ) (xs ys : List Mark) → marked (marked d some xs) more ys ≡ marked d more (xs ++ ys)
marked_twice d some more xs ys =
    let F : List Mark → Description = λ s. record { cells = more; seen = s; rules = d.rules } in
    ap F (append_assoc d.seen xs ys)

-- an access at an offset, once the marks xs have come
module _ (d : Description) (base len off : ℕ) (cells : List ℕ) (xs : List Mark) (h : off < len) (fits : base + len ≤ length cells) where
  within : Within (marked d cells xs) base len off
  within = record { below = h; fits = fits }

  then_read : d.rules.cost Read len + length xs ≤ free d
      → (read_answer (marked d cells xs) base len off ≡ Ok (get_or cells (base + off) 0)) × (read_after (marked d cells xs) base len off ≡ marked d cells (xs ++ d.rules.shows Read base len off))
  then_read room =
      let l = length-append d.seen xs in
      let r : d.rules.cost Read len ≤ free (marked d cells xs) = omega arith in
      (read_answers (marked d cells xs) base len off within r, read_leaves (marked d cells xs) base len off within r ∙ marked_twice d cells cells xs _)

  then_write : (word : ℕ) → d.rules.cost Write len + length xs ≤ free d
      → (write_answer (marked d cells xs) base len off ≡ Ok tt) × (write_after (marked d cells xs) base len off word ≡ marked d (set cells (base + off) word) (xs ++ d.rules.shows Write base len off))
  then_write word room =
      let l = length-append d.seen xs in
      let r : d.rules.cost Write len ≤ free (marked d cells xs) = omega arith in
      (write_answers (marked d cells xs) base len off within r, write_leaves (marked d cells xs) base len off within word r ∙ marked_twice d cells (set cells (base + off) word) xs _)

-- the turn of a read at offset n, from the memory m as it then is
pub read_turn : (d : Description) → Lawful d → (base len n : ℕ) → n < len → base + len ≤ length d.cells → len * turn_cost d.rules.cost Read len ≤ free d
    → (m : Description) → m ≡ marked d d.cells (turns d.rules.shows Read base len n)
    → (read_answer m base len n ≡ Ok (get_or d.cells (base + n) 0)) × (read_after m base len n ≡ marked d d.cells (turns d.rules.shows Read base len (n + 1)))
read_turn d laws base len n h fits room m e =
    let p = then_read d base len n d.cells (turns d.rules.shows Read base len n) h fits (turn_room d laws base len fits Read n h room) in (
      ap (λ x. read_answer x base len n) e ∙ p.0,
      ap (λ x. read_after x base len n) e ∙ p.1 ∙ ap (λ i. marked d d.cells (turns d.rules.shows Read base len i)) (sym (add-one n)),
    )

-- the turn of a write at offset n
module _ (d : Description) (laws : Lawful d) (base len n : ℕ) (h : n < len) (fits : base + len ≤ length d.cells) (off word : ℕ) (room : len * turn_cost d.rules.cost Write len ≤ free d) where
  -- its read
  pub write_turn_read : (m : Description) → m ≡ marked d (rewritten d.cells base off word n) (turns d.rules.shows Write base len n)
      → (read_answer m base len n ≡ Ok (get_or (rewritten d.cells base off word n) (base + n) 0)) × (read_after m base len n ≡ marked d (rewritten d.cells base off word n) (turns d.rules.shows Write base len n ++ d.rules.shows Read base len n))
  write_turn_read m e =
      let q = turn_room d laws base len fits Write n h room in
      let l = length-rewritten d.cells base off word n in
      let p = then_read d base len n (rewritten d.cells base off word n) (turns d.rules.shows Write base len n) h (omega arith) (omega arith) in
      (ap (λ x. read_answer x base len n) e ∙ p.0, ap (λ x. read_after x base len n) e ∙ p.1)

  -- and its write
  pub write_turn : (m : Description) (new : ℕ) → m ≡ marked d (rewritten d.cells base off word n) (turns d.rules.shows Write base len n ++ d.rules.shows Read base len n)
      → new ≡ cond (eqb n off) word (get_or (rewritten d.cells base off word n) (base + n) 0)
      → (write_answer m base len n ≡ Ok tt) × (write_after m base len n new ≡ marked d (rewritten d.cells base off word (n + 1)) (turns d.rules.shows Write base len (n + 1)))
  write_turn m new e w =
      let q = turn_room d laws base len fits Write n h room in
      let l = length-rewritten d.cells base off word n in
      let xs = turns d.rules.shows Write base len n in
      let r = d.rules.shows Read base len n in
      let lr = length-append xs r in
      let pr = laws.priced Read base len n (record { below = h; fits = fits }) in
      let lim = laws.limited in
      let p = then_write d base len n (rewritten d.cells base off word n) (xs ++ r) h (omega arith) new (omega arith) in (
        ap (λ x. write_answer x base len n) e ∙ p.0,
        ap (λ x. write_after x base len n new) e ∙ p.1
            ∙ ap (λ cs. marked d cs ((xs ++ r) ++ d.rules.shows Write base len n)) (rewritten_next d.cells base off word n new w)
            ∙ ap (marked d (rewritten d.cells base off word (n + 1))) (append_assoc xs r (d.rules.shows Write base len n) ∙ ap (turns d.rules.shows Write base len) (sym (add-one n))),
      )
