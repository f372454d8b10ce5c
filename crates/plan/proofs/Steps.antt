-- The steps of a pass, as the code takes them.
use Rattle.std.proofs.Common.{◌≡◌, ℕ, zero, suc, ◌+◌, ◌<◌, ◌≤◌, Bool, true, false, ◌&&◌, ltb, List, [], ◌∷◌, ◌++◌, length, get_or, take, is_some, sym, ap, ◌∙◌, arith, length-take}
use Rattle.instructions.specs.declared.Op.TheVariants.{Set, Pick, Load, Store}
use Rattle.instructions.specs.declared.Instruction.{Instruction}
use Rattle.instructions.specs.declared.Instruction.TheVariants.{Do, If, Else, End, Repeat, Again}
use Rattle.program.specs.declared.header.Header.{Header}
use Rattle.program.specs.declared.header.Kind.TheVariants.{Source}
use Rattle.program.specs.Headers.{registers_of}
use Rattle.program.specs.Bounds.{bound}
use Rattle.program.specs.Pairing.{pairing}
use Rattle.program.proofs.Around.{few_around}
use Rattle.labels.specs.Kinds.{secrecy}
use Rattle.labels.specs.Rules.{Smallest}
use Rattle.labels.specs.Sets.{bits, sets, secret_tables}
use Rattle.labels.proofs.Plain.{plain}
use Rattle.labels.proofs.Solving.{unique}
use Rattle.labels.proofs.Numbers.{same_plan}
use Rattle.labels.proofs.Reckoning.{reckoned}
use Rattle.std.proofs.lemmas.List.{get_or-take}
use Rattle.plan.specs.Planned.{Passable, plan_of}

last_mono : (a b c d : Bool) → (c ≡ true → d ≡ true) → (a && (b && c)) ≡ true → (a && (b && d)) ≡ true
last_mono true true c d f h = f h
last_mono true false c d f h = h
last_mono false true c d f h = h
last_mono false false c d f h = h

table_mono : (t used : ℕ) → used ≤ 8 → ltb t used ≡ true → ltb t 8 ≡ true
table_mono t used h e = grind (arith)

-- what is bound among fewer tables is so among eight
pub bound_eight : (used : ℕ) (i : Instruction) → used ≤ 8 → bound 16 used i ≡ true → bound 16 8 i ≡ true
bound_eight used (Do (Set d v)) h e = e
bound_eight used (Do (Pick d a b)) h e = e
bound_eight used (Do (Load d a t)) h e = last_mono (ltb d 16) (ltb a 16) (ltb t used) (ltb t 8) (table_mono t used h) e
bound_eight used (Do (Store a i t)) h e = last_mono (ltb a 16) (ltb i 16) (ltb t used) (ltb t 8) (table_mono t used h) e
bound_eight used (If a) h e = e
bound_eight used Else h e = e
bound_eight used End h e = e
bound_eight used (Repeat a k) h e = e
bound_eight used Again h e = e

pub length_code : (n : ℕ) (list : List Instruction) → n ≤ length list → length (take n list) ≡ n
length_code n list h = omega (arith, length-take n list)

module _ (h : Header) (list : List Instruction) (kind : h.kind ≡ Source) (used : h.used ≤ 8) (room : h.count ≤ length list) where
  -- the code of a source is one that passes can label
  pub passable : ((p : ℕ) → p < h.count → bound (registers_of h.kind) h.used (get_or list p Again) ≡ true) → is_some (pairing [] 0 (take h.count list)) ≡ false → Passable (take h.count list)
  passable bounds pairs =
      let n = length_code h.count list room in
      record {
        bounds = λ p lt.
            let l : p < h.count = omega arith in
            ap (bound 16 8) (get_or-take h.count list p Again l) ∙ bound_eight h.used (get_or list p Again) used ((λ t. bound (registers_of (sym kind t)) h.used (get_or list p Again)) ∙ bounds p l);
        few = few_around (take h.count list) pairs;
      }

-- numbers of 16 bits that are the smallest sets are the ones reckoned
pub is_plan : (h : Header) (code : List Instruction) (l : List ℕ) → Passable code → h.secret_entry < 65536 → length l ≡ length code + 1 → ((k : ℕ) → get_or l k 0 < 65536)
    → Smallest secrecy (secret_tables h.tables) (bits h.secret_entry) code (sets l) → l ≡ plan_of h code
is_plan h code l good narrow long small least =
    let r = reckoned 8 (secret_tables h.tables) h.secret_entry code narrow good.bounds in
    same_plan l (plan_of h code) (long ∙ sym r.long) small r.small (unique secrecy plain (secret_tables h.tables) (bits h.secret_entry) code (sets l) (sets (plan_of h code)) least r.smallest)

pub small_front : (xs ys : List ℕ) → ((k : ℕ) → get_or (xs ++ ys) k 0 < 65536) → (k : ℕ) → get_or xs k 0 < 65536
small_front [] ys h k = omega arith
small_front (x ∷ xs) ys h zero = h 0
small_front (x ∷ xs) ys h (suc k) = small_front xs ys (λ j. h (suc j)) k
