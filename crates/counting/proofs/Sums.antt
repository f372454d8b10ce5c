-- One pass gives the sum over the nested blocks.
use Rattle.std.proofs.Common.{◌≡◌, ℕ, zero, suc, ◌+◌, ◌*◌, ◌<◌, ◌≤◌, max, List, [], ◌∷◌, None, sym, ap, ◌∙◌, ⊎_elim, arith}
use Rattle.std.proofs.lemmas.Bool.{cases_lt}
use Rattle.instructions.specs.declared.Instruction.{Instruction}
use Rattle.instructions.specs.declared.Instruction.TheVariants.{Else, End, Again}
use Rattle.program.specs.Blocks.{Block, done, one, if_then, if_else, loop, flat}
use Rattle.program.specs.Pairing.{pairing}
use Rattle.program.specs.Hold.{hold}
use Rattle.brackets.proofs.Nesting.{tree}
use Rattle.machine.specs.Most.{Price, each_step, price, most_of}
use Rattle.execution.specs.Runs.{OverBy, CountsBy}
use Rattle.execution.proofs.Onward.{over_by, counts_by}
use Rattle.counting.specs.declared.open_bracket.OpenBracket.{OpenBracket}
use Rattle.counting.specs.Counting.{Sum, open_bracket, sums, most_steps}

hold_turns : (y k m v : ℕ) → hold (hold y + (v + k * (hold (0 + m) + v))) ≡ hold (y + (v + k * (m + v)))
hold_turns y zero m v = omega arith
hold_turns y (suc k) m v = ⊎_elim (λ (h : m < 1000001). small h) (λ h. omega arith) (cases_lt m 1000001)
  where
    small : m < 1000001 → hold (hold y + (v + suc k * (hold (0 + m) + v))) ≡ hold (y + (v + suc k * (m + v)))
    small h = let e : hold (0 + m) ≡ m = omega arith in rw e (omega arith)

module _ (w : Price) where
  pub sums-flat : {Note : Type 0} (b : Block Note) (fs : List OpenBracket) (x : ℕ) (is : List Instruction) → sums w fs (hold x) (flat b is) ≡ sums w fs (hold (x + most_of w b)) is
  sums-flat done fs x is = let e : x ≡ x + 0 = omega arith in ap (λ n. sums w fs (hold n) is) e
  sums-flat (one op b) fs x is =
      let e : hold (hold x + price w op) ≡ hold (x + price w op) = omega arith in
      let g : (x + price w op) + most_of w b ≡ x + (price w op + most_of w b) = omega arith in
      ap (λ n. sums w fs n (flat b is)) e ∙ (sums-flat b fs (x + price w op) is ∙ ap (λ n. sums w fs (hold n) is) g)
  sums-flat (if_then c a t b) fs x is =
      let m = (w.step + w.step) + most_of w t in
      let e : hold (hold x + ((w.step + w.step) + max 0 (hold (0 + most_of w t)))) ≡ hold (x + m) = omega arith in
      let g : (x + m) + most_of w b ≡ x + (m + most_of w b) = omega arith in
      sums-flat t (open_bracket (hold x) 0 0 ∷ fs) 0 (End ∷ flat b is)
      ∙ (ap (λ n. sums w fs n (flat b is)) e ∙ (sums-flat b fs (x + m) is ∙ ap (λ n. sums w fs (hold n) is) g))
  sums-flat (if_else c a t u b) fs x is =
      let m = (w.step + w.step) + max (most_of w t + w.step) (most_of w u) in
      let e : hold (hold x + ((w.step + w.step) + max (hold (0 + most_of w t) + w.step) (hold (0 + most_of w u)))) ≡ hold (x + m) = omega arith in
      let g : (x + m) + most_of w b ≡ x + (m + most_of w b) = omega arith in
      sums-flat t (open_bracket (hold x) 0 0 ∷ fs) 0 (Else ∷ flat u (End ∷ flat b is))
      ∙ (sums-flat u (open_bracket (hold x) (hold (0 + most_of w t) + w.step) 0 ∷ fs) 0 (End ∷ flat b is)
      ∙ (ap (λ n. sums w fs n (flat b is)) e ∙ (sums-flat b fs (x + m) is ∙ ap (λ n. sums w fs (hold n) is) g)))
  sums-flat (loop a k t b) fs x is =
      let m = w.step + k * (most_of w t + w.step) in
      let g : (x + m) + most_of w b ≡ x + (m + most_of w b) = omega arith in
      sums-flat t (open_bracket (hold x) 0 k ∷ fs) 0 (Again ∷ flat b is)
      ∙ (ap (λ n. sums w fs n (flat b is)) (hold_turns x k (most_of w t) w.step) ∙ (sums-flat b fs (x + m) is ∙ ap (λ n. sums w fs (hold n) is) g))

  -- whatever the blocks of the code carry
  pub sums_is : {Note : Type 0} (b : Block Note) (code : List Instruction) → flat b [] ≡ code → sums w [] 0 code ≡ hold (most_of w b)
  sums_is b code e = sym (ap (sums w [] 0) e) ∙ sums-flat b [] 0 [] ∙ (let z : hold (0 + most_of w b) ≡ hold (most_of w b) = omega arith in z)

  pub summed : (code : List Instruction) → pairing [] 0 code ≡ None → Sum w code (sums w [] 0 code)
  summed code h = let t = tree (Unit {0}) (λ _. tt) code h in (t.0, t.1, sums_is t.0 code t.1)

  -- a sum that is not held is the most itself
  pub not_held : (code : List Instruction) → pairing [] 0 code ≡ None → {n : ℕ} → n ≡ sums w [] 0 code → n ≤ 1000000 → CountsBy w code n
  not_held code h {n} e l =
      let t = tree (Unit {0}) (λ _. tt) code h in
      let s = sums_is t.0 code t.1 in
      counts_by w code t.0 t.1 t.2 n (omega arith)

pub ends_by : (code : List Instruction) → pairing [] 0 code ≡ None → {n : ℕ} → n ≡ most_steps code → n ≤ 1000000 → OverBy code n
ends_by code h {n} e l =
    let t = tree (Unit {0}) (λ _. tt) code h in
    let s = sums_is each_step t.0 code t.1 in
    over_by code t.0 t.1 t.2 n (omega arith)
