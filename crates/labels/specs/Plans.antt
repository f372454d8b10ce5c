-- The smallest sets reckoned, as numbers: passes until one changes nothing.
use Rattle.std.specs.Prelude.{ℕ, zero, suc, ◌+◌, ◌*◌, ◌^◌, Bool, true, false, cond, ◌||◌, List, [], ◌∷◌, length, replicate, ◌==◌, bit_and, bit_or, bit_xor, slice_index, slice_set}
use Rattle.instructions.specs.declared.Op.{Op}
use Rattle.instructions.specs.declared.Op.TheVariants.{Set, Pick, Load, Store}
use Rattle.instructions.specs.declared.Instruction.{Instruction}
use Rattle.instructions.specs.declared.Instruction.TheVariants.{Do, If, Else, End, Repeat, Again}
use Rattle.program.specs.declared.opening.Marked.{Marked}
use Rattle.labels.specs.Kinds.{secrecy}
use Rattle.labels.specs.declared.way.Way.{Way}
use Rattle.labels.specs.Rules.{read_by, written, mask_of, ways}
use Rattle.labels.specs.Passes.{opens}
use Rattle.labels.specs.Sets.{bits, sets, room}

-- the number x, with register d in its set or not in it
abbrev pub number_put : ℕ → ℕ → Bool → ℕ
number_put x d true = bit_or x (2 ^ d)
number_put x d false = bit_xor x (bit_and x (2 ^ d))

-- what leaves an op, as a number
abbrev pub number_leaves : (ℕ → Bool) → Bool → Op → ℕ → ℕ
number_leaves tables mask (Set d v) x = number_put x d (written secrecy mask mask (bits x d) (read_by secrecy v (bits x)))
number_leaves tables mask (Pick d a b) x = number_put x d (written secrecy mask mask (bits x d) (bits x d || (bits x a || bits x b)))
number_leaves tables mask (Load d a t) x = number_put x d (written secrecy mask mask (bits x d) (bits x a || tables t))
number_leaves tables mask (Store a i t) x = x

-- the list, with the set x put into that at place q
abbrev pub number_raised : List ℕ → ℕ → ℕ → List ℕ
number_raised l q x = slice_set l q (bit_or (slice_index l q) x)

-- the list, after sets went along ways
abbrev pub numbers_along : List Way → List ℕ → List ℕ
numbers_along [] l = l
numbers_along (w ∷ ws) l = numbers_along ws (number_raised l w.to (slice_index l w.from))

-- the list, raised as the instruction at place p asks, inside these openings
abbrev pub numbers_flow : (ℕ → Bool) → List (Marked Bool) → ℕ → Instruction → List ℕ → List ℕ
numbers_flow tables ks p (Do op) l = number_raised l (suc p) (number_leaves tables (mask_of secrecy ks) op (slice_index l p))
numbers_flow tables ks p (If a) l = numbers_along (ways secrecy ks p (If a)) l
numbers_flow tables ks p Else l = numbers_along (ways secrecy ks p Else) l
numbers_flow tables ks p End l = numbers_along (ways secrecy ks p End) l
numbers_flow tables ks p (Repeat a k) l = numbers_along (ways secrecy ks p (Repeat a k)) l
numbers_flow tables ks p Again l = numbers_along (ways secrecy ks p Again) l

-- the list, after a pass over instructions from place p on
abbrev pub numbers_sweep : (ℕ → Bool) → List (Marked Bool) → ℕ → List Instruction → List ℕ → List ℕ
numbers_sweep tables ks p [] l = l
numbers_sweep tables ks p (i ∷ is) l = numbers_sweep tables (opens secrecy (sets l p) ks p i) (suc p) is (numbers_flow tables ks p i l)

-- the list, after passes until one changes nothing, and at most so many
abbrev pub settled : (ℕ → Bool) → List Instruction → ℕ → List ℕ → List ℕ
settled tables code zero l = l
settled tables code (suc most) l = let next = numbers_sweep tables [] 0 code l in cond (room next == room l) l (settled tables code most next)

-- the smallest sets of places 0 to n, from the tables that are secret, the set of secret entry registers and the
-- code; the number of passes allowed is above the room there is, so that it never ends them
unfoldable pub labels_of : (ℕ → Bool) → ℕ → List Instruction → List ℕ
labels_of tables entry code = settled tables code (65536 * (length code + 1)) (entry ∷ replicate (length code) 0)
