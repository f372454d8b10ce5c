-- What runs of a result leave and show, beside runs of its source.
use Rattle.std.proofs.Common.{◌≡◌, ℕ, ◌<◌, ◌≤◌, Bool, true, leb, List, [], take_all, length, get_or, is_some, None, vec_items, le_of_eq, sym, ap, ◌∙◌, subst, arith}
use Rattle.std.proofs.lemmas.List.{get_or-take}
use Rattle.std.proofs.lemmas.Bool.{leb-true}
use Rattle.instructions.specs.declared.Instruction.{Instruction}
use Rattle.instructions.specs.declared.Instruction.TheVariants.{Again}
use Rattle.program.specs.declared.header.Header.{Header}
use Rattle.program.specs.declared.header.Kind.TheVariants.{Source}
use Rattle.program.specs.declared.refusal.Reason.TheVariants.{NotASource, TooManySteps}
use Rattle.program.specs.declared.program.Program.{Program}
use Rattle.program.specs.Programs.{code_of}
use Rattle.program.specs.Headers.{registers_of, is_source}
use Rattle.program.specs.Bounds.{bound}
use Rattle.program.specs.Pairing.{pairing}
use Rattle.program.specs.Refusals.{unless, or_else}
use Rattle.program.specs.Blocks.{fin}
use Rattle.program.specs.Sound.{SoundList}
use Rattle.program.proofs.Refusals.{both, passed}
use Rattle.labels.specs.Kinds.{secrecy}
use Rattle.labels.specs.Rules.{Solves}
use Rattle.labels.specs.Sets.{bits, secret_tables}
use Rattle.labels.proofs.Proved.{smallest_exists}
use Rattle.machine.specs.Machine.{go, steps}
use Rattle.machine.proofs.Programs.{code_long}
use Rattle.counting.specs.Counting.{most_steps}
use Rattle.groups.specs.Groups.{lengths}
use Rattle.execution.proofs.Whole.{long}
use Rattle.conversion.specs.Sources.{IsSource}
use Rattle.conversion.specs.Trees.{Tree}
use Rattle.conversion.specs.Labelling.{Labelled}
use Rattle.conversion.specs.Refusing.{hidden_by, first_wrong}
use Rattle.conversion.proofs.Trees.{trees}
use Rattle.conversion.proofs.Labelling.{labellings}
use Rattle.simulation.specs.Results.{FollowsRun}
use Rattle.simulation.proofs.Results.{result_steps_grow, result_follows}
use Rattle.secrecy.specs.Alike.{Alike}
use Rattle.secrecy.specs.Converted.{wide}
use Rattle.secrecy.specs.Whole.{EndsIn}
use Rattle.secrecy.proofs.Whole.{whole_runs_alike, converted_runs_alike}
use Rattle.secrecy.proofs.Together.{bare_same, whole_runs_together}
use Rattle.secrecy.proofs.Beyond.{beyond_stays}
use Rattle.secrecy.proofs.Unmasked.{unmasked_carries}
use Rattle.converter.specs.Converting.{smallest_labels, result_of, place_refusal, size_refusal, convert_refusal}
use Rattle.converter.specs.Keeps.{Keeps}
use Rattle.converter.specs.AnyMaker.{OfAnyMaker}

-- a source, by its smallest labels
module _ (h : Header) (code : List Instruction) (source : IsSource h code) where
  bounds : (p : ℕ) → p < length code → bound 16 h.used (get_or code p Again) ≡ true
  bounds p l = subst (λ k. bound (registers_of k) h.used (get_or code p Again) ≡ true) source.kind (source.list.bounds p (omega (arith, source.whole)))

  pub solves : Solves secrecy (secret_tables h.tables) (bits h.secret_entry) code (smallest_labels h code)
  solves = (smallest_exists h.used (secret_tables h.tables) h.secret_entry code source.header.narrow bounds).solves

  pub tree_of : Tree (smallest_labels h code) h code
  tree_of = trees (smallest_labels h code) h code source

  -- where no place is refused, the labels are kept block by block
  pub labelled : (hides : Bool) → place_refusal h code hides ≡ None → Labelled (secret_tables h.tables) (hidden_by hides) (smallest_labels h code) 0 tree_of.block 0
  labelled hides none =
      labellings (secret_tables h.tables) (hidden_by hides) (bits h.secret_entry) (smallest_labels h code) tree_of.block tree_of.notes
      (subst (λ c. Solves secrecy (secret_tables h.tables) (bits h.secret_entry) c (smallest_labels h code)) (sym tree_of.row) solves)
      (subst (λ c. first_wrong (secret_tables h.tables) (hidden_by hides) (smallest_labels h code) [] 0 c ≡ None) (sym tree_of.row) none)

  ends : fin tree_of.block 0 ≡ length code
  ends = let e = long tree_of.block 0 [] in let f = ap length tree_of.row in omega arith

  module _ (hides : Bool) (none : place_refusal h code hides ≡ None) (few : most_steps (result_of h code) ≤ 1000000) where
    pub alike : (x y z w : _) → Alike h.tables (secret_tables h.tables) (hidden_by hides) (wide (smallest_labels h code 0)) x y
        → EndsIn h.tables (result_of h code) x z → EndsIn h.tables (result_of h code) y w
        → Alike h.tables (secret_tables h.tables) (hidden_by hides) (wide (smallest_labels h code (length code))) z w
    alike x y z w a e f =
        subst (λ n. Alike h.tables (secret_tables h.tables) (hidden_by hides) (wide (smallest_labels h code n)) z w) ends
        (converted_runs_alike h.tables (secret_tables h.tables) (hidden_by hides) (smallest_labels h code) (lengths h.tables) h.used tree_of.block (result_of h code) x y z w
        tree_of.fits (labelled hides none) tree_of.result tree_of.shallow few a e f)

-- a program that is a source
module _ (s : Program) (kind : s.header.kind ≡ Source) where
  source_list : SoundList s.header (code_of s)
  source_list = record {
    room = le_of_eq (sym (code_long s));
    bounds = λ p lt. ap (bound (registers_of s.header.kind) s.header.used) (get_or-take s.header.count (vec_items s.list) p Again lt) ∙ s.bounds p lt;
    pairs = ap (λ l. is_some (pairing [] 0 l)) (take_all s.header.count (code_of s) (le_of_eq (code_long s))) ∙ s.pairs;
  }

  is_source_of : IsSource s.header (code_of s)
  is_source_of = record {
    kind = kind;
    header = record { eight = s.eight; few = s.few; tables = s.tables; cells = s.cells; short = s.short; narrow = s.narrow };
    list = source_list;
    whole = code_long s;
  }

  module _ (hides : Bool) (room : ℕ) (accepted : None ≡ convert_refusal s.header (code_of s) hides room) where
    later : or_else (place_refusal s.header (code_of s) hides) (size_refusal (result_of s.header (code_of s)) room) ≡ None
    later = (both (unless (is_source s.header.kind) NotASource 0) _ (sym accepted)).1

    no_place : place_refusal s.header (code_of s) hides ≡ None
    no_place = (both (place_refusal s.header (code_of s) hides) _ later).0

    few_steps : most_steps (result_of s.header (code_of s)) ≤ 1000000
    few_steps =
        let size = (both (place_refusal s.header (code_of s) hides) _ later).1 in
        let fits = leb (most_steps (result_of s.header (code_of s))) 1000000 in
        leb-true (most_steps (result_of s.header (code_of s))) 1000000 (passed fits TooManySteps 0 (both (unless fits TooManySteps 0) _ size).0)

    pub keeps : (p : Program) → code_of p ≡ result_of s.header (code_of s) → Keeps s hides p
    keeps p e =
        let h = s.header in
        let code = code_of s in
        let is = is_source_of in
        let t = tree_of h code is in
        let tables = h.tables in
        record {
          most = subst (λ c. most_steps code ≤ most_steps c) (sym e) (result_steps_grow (smallest_labels h code) h code t);
          follows = λ x low.
              subst (λ c. (z : _) × EndsIn tables c x z × FollowsRun (steps tables code (most_steps code) (go 0 [] x)) z) (sym e)
              (result_follows (smallest_labels h code) h code x is.header t few_steps low);
          alike = λ x y z w a f g. alike h code is hides no_place few_steps x y z w a (subst (λ c. EndsIn tables c x z) e f) (subst (λ c. EndsIn tables c y w) e g);
        }

pub of_any_maker : OfAnyMaker
of_any_maker = record { carried = unmasked_carries; alike = whole_runs_alike; together = whole_runs_together; same = bare_same; beyond = beyond_stays }
