-- The most steps and marks of a program, by one pass over its instructions.
use Rattle.std.specs.Prelude.{◌≡◌, ℕ, ◌+◌, ◌*◌, ◌<◌, max, cond, List, [], ◌∷◌, map, length, None, nat_lt, slice_index_or}
use Rattle.instructions.specs.declared.Instruction.{Instruction}
use Rattle.instructions.specs.declared.Instruction.TheVariants.{Do, If, Else, End, Repeat, Again}
use Rattle.program.specs.declared.header.Table.{Table}
use Rattle.program.specs.Pairing.{pairing}
use Rattle.program.specs.Hold.{hold}
use Rattle.program.specs.Blocks.{Block, flat}
use Rattle.stack.specs.Items.{below, swapped}
use Rattle.memory.specs.declared.Access.{Access}
use Rattle.memory.specs.declared.Access.TheVariants.{Read, Write}
use Rattle.machine.specs.States.{held}
use Rattle.machine.specs.Fits.{Fit}
use Rattle.machine.specs.Most.{Price, each_step, price, most_of}
use Rattle.counting.specs.declared.open_bracket.OpenBracket.{OpenBracket}
use Rattle.counting.specs.declared.price.TablePrice.{TablePrice}

-- the sum over the nested blocks that these instructions are, held at 1,000,001
abbrev pub Sum : Price → List Instruction → ℕ → Type 0
Sum w code n = (b : Block (Unit {0})) × (flat b [] ≡ code) × (n ≡ hold (most_of w b))

-- what can be counted: the bounds of every instruction are kept, and the brackets pair
pub record Countable (code : List Instruction) : Type 0 where
  pub fits : (p : ℕ) → p < length code → Fit 32 8 (slice_index_or code p Again)
  pub pairs : pairing [] 0 code ≡ None

-- an open bracket: what was counted before it, what its first arm counts with the step of the else
-- after it, and how often it goes round
abbrev pub open_bracket : ℕ → ℕ → ℕ → OpenBracket
open_bracket before first_arm rounds = record { before = before; first_arm = first_arm; rounds = rounds }

-- the innermost bracket that is open
abbrev pub innermost : List OpenBracket → OpenBracket
innermost [] = open_bracket 0 0 0
innermost (f ∷ fs) = f

-- what an if, without its else or with it, counts when its last arm counts x
abbrev pub arms : Price → OpenBracket → ℕ → ℕ
arms w f x = f.before + ((w.step + w.step) + max f.first_arm x)

-- what a repeat counts when its body counts x
abbrev pub turns : Price → OpenBracket → ℕ → ℕ
turns w f x = f.before + (w.step + f.rounds * (x + w.step))

module _ (w : Price) where
  -- the same sum by one pass: inside these brackets x was counted so far
  abbrev pub sums : List OpenBracket → ℕ → List Instruction → ℕ
  sums fs x [] = x
  sums fs x (Do op ∷ is) = sums fs (hold (x + price w op)) is
  sums fs x (If a ∷ is) = sums (open_bracket x 0 0 ∷ fs) 0 is
  sums fs x (Else ∷ is) = sums (swapped (open_bracket (innermost fs).before (x + w.step) 0) fs) 0 is
  sums fs x (End ∷ is) = sums (below fs) (hold (arms w (innermost fs) x)) is
  sums fs x (Repeat a k ∷ is) = sums (open_bracket x 0 k ∷ fs) 0 is
  sums fs x (Again ∷ is) = sums (below fs) (hold (turns w (innermost fs) x)) is

-- the most steps of a program
abbrev pub most_steps : List Instruction → ℕ
most_steps code = sums each_step [] 0 code

-- an access counts its cost, by the length of its table; nothing else counts
abbrev pub mark_price : (Access → ℕ → ℕ) → List Table → Price
mark_price cost tables = record {
  step = 0;
  read = held (map (λ t. cost Read t.length) tables);
  write = held (map (λ t. cost Write t.length) tables);
}

-- the most marks of a program, by what a memory's accesses cost
abbrev pub most_marks : (Access → ℕ → ℕ) → List Table → List Instruction → ℕ
most_marks cost tables code = sums (mark_price cost tables) [] 0 code

-- what a read and a write of a table cost
abbrev pub costs : (Access → ℕ → ℕ) → Table → TablePrice
costs cost t = record { read = cost Read t.length; write = cost Write t.length }

-- where there is no table nothing is counted
abbrev pub no_price : TablePrice
no_price = record { read = 0; write = 0 }

-- prices as the code holds them
abbrev pub priced : ℕ → List TablePrice → Price
priced step tables = record {
  step = step;
  read = λ t. (slice_index_or tables t no_price).read;
  write = λ t. (slice_index_or tables t no_price).write;
}

-- one bracket more, where there is room
abbrev pub entered : OpenBracket → List OpenBracket → List OpenBracket
entered f fs = cond (nat_lt (length fs) 8) (f ∷ fs) fs

-- what the pass does at one instruction: to the brackets, and to what was counted
abbrev pub Added : Price → Instruction → List OpenBracket → ℕ → List OpenBracket → ℕ → Type 0
Added w (Do op) fs x fs' x' = (fs' ≡ fs) × (x' ≡ hold (x + price w op))
Added w (If a) fs x fs' x' = (fs' ≡ entered (open_bracket x 0 0) fs) × (x' ≡ 0)
Added w Else fs x fs' x' = (fs' ≡ swapped (open_bracket (innermost fs).before (x + w.step) 0) fs) × (x' ≡ 0)
Added w End fs x fs' x' = (fs' ≡ below fs) × (x' ≡ hold (arms w (innermost fs) x))
Added w (Repeat a k) fs x fs' x' = (fs' ≡ entered (open_bracket x 0 k) fs) × (x' ≡ 0)
Added w Again fs x fs' x' = (fs' ≡ below fs) × (x' ≡ hold (turns w (innermost fs) x))
