-- What a source's result is.
use Rattle.std.proofs.Common.{◌≡◌, ℕ, ◌+◌, ◌<◌, ◌≤◌, Bool, true, false, ltb, leb, List, [], ◌++◌, length, get_or, take, is_some, None, vec_items, Option, sym, refl, ap, ◌∙◌, subst, arith}
use Rattle.std.proofs.lemmas.List.{get_or-take, get_or_append_left, take_at, length-append}
use Rattle.std.proofs.lemmas.Bool.{and_parts, ltb-true, leb-true}
use Rattle.instructions.specs.declared.Instruction.{Instruction}
use Rattle.instructions.specs.declared.Instruction.TheVariants.{Again}
use Rattle.program.specs.declared.header.Table.{Table}
use Rattle.program.specs.declared.header.Kind.{Kind}
use Rattle.program.specs.declared.header.Kind.TheVariants.{Source, Converted}
use Rattle.program.specs.declared.refusal.Refusal.{Refusal}
use Rattle.program.specs.declared.refusal.Reason.TheVariants.{NotASource}
use Rattle.program.specs.Refusals.{unless, or_else}
use Rattle.program.specs.declared.program.Program.{Program}
use Rattle.program.specs.Bounds.{bound}
use Rattle.program.specs.Headers.{registers_of, longest, is_source, no_table, table_fits}
use Rattle.program.specs.Pairing.{pairing}
use Rattle.program.specs.Blocks.{Nested}
use Rattle.brackets.proofs.Nesting.{paired_is_nested}
use Rattle.program.specs.Sound.{SoundList}
use Rattle.program.proofs.Refusals.{passed_first}
use Rattle.labels.specs.Sets.{sets, secret_tables}
use Rattle.labels.proofs.Reckoning.{reckoned}
use Rattle.plan.specs.Planned.{plan_of, Passable}
use Rattle.plan.proofs.Steps.{passable}
use Rattle.program.specs.Programs.{code_of}
use Rattle.machine.proofs.Fitting.{fits, fits_eight}
use Rattle.machine.proofs.Programs.{code_long, code_pairs}
use Rattle.counting.specs.Counting.{Countable}
use Rattle.groups.specs.Groups.{lengths}
use Rattle.converter.specs.Converting.{result_of, result_header}
use Rattle.converter.proofs.Shapes.{shaped, placed}
use Rattle.converter.proofs.Paired.{paired}
use Rattle.converter.specs.Straight.{brackets, Straight}
use Rattle.converter.proofs.Left.{all_left}
use Rattle.converter.proofs.Bounded.{all_at, all_from, bounded}

table_short : (t : Table) (b : Bool) → b ≡ true → table_fits t b ≡ true → t.length ≤ 1024
table_short t true e h = leb-true t.length 1024 (and_parts (leb 1 t.length) (leb t.length 1024) h).1
table_short t false e h = let z : ◌≡◌ {A = ℕ} 0 1 = cc in absurd (omega arith)

source_kind : (k : Kind) → is_source k ≡ true → k ≡ Source
source_kind Source e = refl
source_kind Converted e = let z : ◌≡◌ {A = ℕ} 0 1 = cc in absurd (omega arith)

-- what is not refused as another kind is a source
pub source_there : (k : Kind) (later : Option Refusal) → None ≡ or_else (unless (is_source k) NotASource 0) later → k ≡ Source
source_there k later e = source_kind k (passed_first (is_source k) NotASource 0 later (sym e)).0

module _ (s : Program) (kind : s.header.kind ≡ Source) where
  pub source_short : length (code_of s) ≤ 200
  source_short =
      let n : s.header.count ≤ 200 = subst (λ k. s.header.count ≤ longest k) kind s.short in
      omega (arith, code_long s)

  bounds : (p : ℕ) → p < length (code_of s) → bound 16 s.header.used (get_or (code_of s) p Again) ≡ true
  bounds p lt =
      let h = s.header in
      let list = vec_items s.list in
      let l : p < s.header.count = omega (arith, code_long s) in
      ap (bound 16 h.used) (get_or-take h.count list p Again l) ∙ (λ t. bound (registers_of (sym kind t)) h.used (get_or list p Again)) ∙ s.bounds p l

  short_tables : (b : ℕ) → ltb b s.header.used ≡ true → lengths s.header.tables b ≤ 1024
  short_tables b e =
      let l = ltb-true b s.header.used e in
      let m : b < 8 = omega (arith, s.few) in
      table_short (get_or s.header.tables b no_table) (ltb b s.header.used) e (s.tables b m)

  pub result_pairs : pairing [] 0 (result_of s.header (code_of s)) ≡ None
  result_pairs = placed (result_of s.header (code_of s)) (paired (lengths s.header.tables) (sets (plan_of s.header (code_of s))) (code_of s) (shaped (code_of s) (code_pairs s)))

  pub result_bounds : (p : ℕ) → bound 32 s.header.used (get_or (result_of s.header (code_of s)) p Again) ≡ true
  result_bounds p =
      let short = source_short in
      all_at 32 s.header.used (result_of s.header (code_of s)) p
      (bounded s.header.used (lengths s.header.tables) short_tables (sets (plan_of s.header (code_of s))) (code_of s) [] 0 (omega arith) (shaped (code_of s) (code_pairs s)) (omega arith) (all_from 16 s.header.used (code_of s) bounds))

  pub result_countable : Countable (result_of s.header (code_of s))
  result_countable = record {
    fits = λ p lt.
        let i = get_or (result_of s.header (code_of s)) p Again in
        fits_eight s.header.used i s.few (fits 32 s.header.used (omega arith) i (result_bounds p));
    pairs = result_pairs;
  }

  pub source_passable : Passable (code_of s)
  source_passable = passable s.header (vec_items s.list) kind s.few s.room s.bounds s.pairs

  pub plan_long : length (plan_of s.header (code_of s)) ≡ length (code_of s) + 1
  plan_long = (reckoned 8 (secret_tables s.header.tables) s.header.secret_entry (code_of s) s.narrow source_passable.bounds).long

  -- the first numbers of the list that was planned into
  pub plan_there : (n : ℕ) (before after : List ℕ) → n ≡ length (code_of s) + 1 → after ≡ plan_of s.header (code_of s) ++ before → take n after ≡ plan_of s.header (code_of s)
  plan_there n before after e f = ap (take n) f ∙ take_at (plan_of s.header (code_of s)) before n (plan_long ∙ sym e)

  pub sound_list : (n : ℕ) (list rest : List Instruction) → n ≡ length (result_of s.header (code_of s)) → list ≡ result_of s.header (code_of s) ++ rest → SoundList (result_header s.header n) list
  sound_list n list rest e f =
      let result = result_of s.header (code_of s) in
      record {
        room = omega (arith, ap length f, length-append result rest);
        bounds = λ p lt. ap (λ l. bound 32 s.header.used (get_or l p Again)) f ∙ ap (bound 32 s.header.used) (get_or_append_left result rest Again p (omega arith)) ∙ result_bounds p;
        pairs = ap (λ l. is_some (pairing [] 0 (take n l))) f ∙ ap (λ l. is_some (pairing [] 0 l)) (take_at result rest n (sym e)) ∙ ap is_some result_pairs;
      }

  pub straight : (p : Program) → code_of p ≡ result_of s.header (code_of s) → p.header.kind ≡ Converted → length (result_of s.header (code_of s)) ≤ 3000 → Straight s p
  straight p e k h = record {
    kind = k;
    short = omega (arith, ap length e);
    nested = subst Nested (sym e) ((paired_is_nested (result_of s.header (code_of s))).0 result_pairs);
    left = ap brackets e ∙ all_left (lengths s.header.tables) (sets (plan_of s.header (code_of s))) (code_of s) [] 0;
  }
