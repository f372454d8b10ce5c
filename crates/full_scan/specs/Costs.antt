-- How many marks a full scan shows, and its laws.
use Rattle.std.specs.Prelude.{◌≡◌, ℕ, zero, suc, ◌+◌, ◌*◌, ◌<◌, ◌≤◌, min, length, refl}
use Rattle.std.proofs.Common.{ap, ⊎_elim, zero-mul, suc-mul, mul-le-mul_right, le-mul_of_pos_right, arith, length-append}
use Rattle.std.proofs.lemmas.Bool.{cases_lt}
use Rattle.memory.specs.declared.Access.{Access}
use Rattle.memory.specs.declared.Access.TheVariants.{Read, Write}
use Rattle.program.specs.Hold.{hold}
use Rattle.memory.specs.Description.{Description, free}
use Rattle.memory.specs.Laws.{Within, Lawful}
use Rattle.full_scan.specs.Scan.{turn, turns, turn_cost, scan_over}

module _ (d : Description) (laws : Lawful d) (base len : ℕ) (fits : base + len ≤ length d.cells) where
  turn-length : (k : Access) (off : ℕ) → off < len → hold (length (turn d.rules.shows k base len off)) ≡ hold (turn_cost d.rules.cost k len)
  turn-length Read off h =
      let p = laws.priced Read base len off (record { below = h; fits = fits }) in
      omega arith
  turn-length Write off h =
      let p = laws.priced Read base len off (record { below = h; fits = fits }) in
      let q = laws.priced Write base len off (record { below = h; fits = fits }) in
      let l = length-append (d.rules.shows Read base len off) (d.rules.shows Write base len off) in
      omega arith

  turns-hold : (k : Access) (n : ℕ) → n ≤ len → hold (length (turns d.rules.shows k base len n)) ≡ hold (n * turn_cost d.rules.cost k len)
  turns-hold k zero h = let z = zero-mul (turn_cost d.rules.cost k len) in omega arith
  turns-hold k (suc n) h =
      let p = turns-hold k n (omega arith) in
      let t = turn-length k n (omega arith) in
      let l = length-append (turns d.rules.shows k base len n) (turn d.rules.shows k base len n) in
      let m = suc-mul n (turn_cost d.rules.cost k len) in
      omega arith

  -- where the whole cost is within some room, the length is the sum itself
  turns-length : (k : Access) (n : ℕ) → n ≤ len → len * turn_cost d.rules.cost k len ≤ 1000000 → length (turns d.rules.shows k base len n) ≡ n * turn_cost d.rules.cost k len
  turns-length k n h few =
      let p = turns-hold k n h in
      let le = mul-le-mul_right (turn_cost d.rules.cost k len) h in
      omega arith

  -- room for the turn at offset n, after those before it
  pub turn_room : (k : Access) (n : ℕ) → n < len → len * turn_cost d.rules.cost k len ≤ free d → turn_cost d.rules.cost k len + length (turns d.rules.shows k base len n) ≤ free d
  turn_room k n h room =
      let few = laws.limited in
      let l = turns-length k n (omega arith) (omega arith) in
      let s = suc-mul n (turn_cost d.rules.cost k len) in
      let le = mul-le-mul_right (turn_cost d.rules.cost k len) h in
      omega arith

-- a cost as code computes it, from sums and products that stop at the largest number
pub stopped : (len x turn : ℕ) → turn ≡ min x 18446744073709551615 → min (min (len * turn) 18446744073709551615) 1000001 ≡ hold (len * x)
stopped zero x turn e = let a = zero-mul turn in let b = zero-mul x in omega arith
stopped (suc n) x turn e =
    ⊎_elim
    (λ few. let s : turn ≡ x = omega arith in let p = ap (λ v. suc n * v) s in omega arith)
    (λ many. let a = suc-mul n turn in let b = suc-mul n x in omega arith)
    (cases_lt x 18446744073709551616)

turn_paid : (d : Description) → Lawful d → (k : Access) (base len off : ℕ) → Within d base len off → 1 ≤ turn_cost d.rules.cost k len
turn_paid d laws Read base len off w = laws.shown Read base len off w
turn_paid d laws Write base len off w = let p = laws.shown Read base len off w in omega arith

pub scan_lawful : (d : Description) → Lawful d → Lawful (scan_over d)
scan_lawful d laws = record {
  limited = laws.limited;
  priced = λ k base len off w. turns-hold d laws base len w.fits k len (omega arith);
  shown = λ k base len off w.
      let v : Within d base len off = record { below = w.below; fits = w.fits } in
      let p = turn_paid d laws k base len off v in
      let q = le-mul_of_pos_right len p in
      let b = w.below in
      omega arith;
  alike = λ _ k base len off other v w. refl;
}
