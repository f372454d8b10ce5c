-- What every bench keeps.
use Rattle.std.proofs.Common.{◌≡◌, ℕ, ◌+◌, ◌≤◌, Bool, not, ltb, List, [], ◌∷◌, length, set, Some, None, vec_items, Option, sym, refl, ◌∙◌, subst, arith, length-set}
use Rattle.std.proofs.lemmas.Bool.{ltb-false}
use Rattle.program.specs.declared.refusal.Reason.TheVariants.{AlreadySeated, MemoryTooSmall}
use Rattle.program.specs.declared.refusal.Refusal.{Refusal}
use Rattle.program.specs.Headers.{cells_of}
use Rattle.program.specs.Refusals.{or_else}
use Rattle.program.proofs.Refusals.{both}
use Rattle.header.specs.Layout.{header_at}
use Rattle.image.specs.Images.{image_refusal}
use Rattle.memory.specs.Description.{Mark, Description}
use Rattle.memory.specs.Accesses.{left}
use Rattle.memory.specs.Laws.{Within, Lawful}
use Rattle.calls.specs.declared.Call.{Call}
use Rattle.calls.specs.declared.Call.TheVariants.{Seat, Put, Arg, Go, Look, Open, Outcome, Clear}
use Rattle.calls.specs.Bytes.{Bytes, ImageOfBytes}
use Rattle.calls.specs.Benches.{Seated, Bench, new, words, none_seated, base, gone}
use Rattle.calls.specs.Calls.{◌⇒◌, first_of, source_at, converted, unconverted, unseated, refused, leaves, after}
use Rattle.promises.specs.Kept.{AcceptedSource, ImagesAccepted}
use Rattle.promises.proofs.Refused.{fails}
use Rattle.calls.proofs.Words.{words_length}

-- d with other cells, as many, and other marks
pub lawful_on : (d : Description) (cells : List ℕ) (seen : List Mark) → length cells ≡ length d.cells → Lawful d → Lawful (record { cells = cells; seen = seen; rules = d.rules })
lawful_on d cells seen e law = record {
  limited = law.limited;
  priced = λ k base len off w. law.priced k base len off (at base len off w);
  shown = λ k base len off w. law.shown k base len off (at base len off w);
  alike = λ h k base len off other w v. law.alike h k base len off other (at base len off w) (at base len other v);
}
  where
    at : (base len off : ℕ) → Within (record { cells = cells; seen = seen; rules = d.rules }) base len off → Within d base len off
    at base len off w = record { below = w.below; fits = omega (arith, w.fits, e) }

-- what is seated comes of a source, over so many cells
pub data From (hides : Bool) (size : ℕ) : Option Seated → Option Seated → Type 0 where
  nothing : From hides size None None
  result : (s : Seated) → AcceptedSource hides s → cells_of s.header.tables ≤ size → From hides size (Some s) (Some (converted s))

-- a bench whose program comes of that source
pub record Sound (o : Option Seated) (b : Bench) : Type 0 where
  pub lawful : Lawful b.memory
  pub low : length b.entry ≡ 16
  pub from : From b.memory.rules.hides (length b.memory.cells) o b.seated

-- the source after an accepted call
abbrev pub source_after : Call → Option Seated → Option Seated
source_after (Seat image) o = Some (source_at (vec_items image))
source_after (Put t i w) o = o
source_after (Arg r w) o = o
source_after (Go room) o = o
source_after (Look t i) o = o
source_after (Open t i) o = o
source_after Outcome o = o
source_after Clear o = o

pub sound_new : (d : Description) → Lawful d → Sound None (new d)
sound_new d law = record { lawful = lawful_on d d.cells [] refl law; low = refl; from = nothing }

as_many : (hides : Bool) (m n : ℕ) (o s : Option Seated) → m ≡ n → From hides n o s → From hides m o s
as_many hides m n o s e f = subst (λ k. From hides k o s) (sym e) f

module _ (images : ImagesAccepted) where
  seated_from : (bs : List ℕ) (b : Bench) → Bytes bs → unseated bs b ≡ None → From b.memory.rules.hides (length b.memory.cells) (Some (source_at bs)) (Some (converted (source_at bs)))
  seated_from bs b small h =
      let v = first_of (not (none_seated b) ⇒ AlreadySeated ∷ []) in
      let x = image_refusal bs in
      let y = unconverted b.memory.rules.hides (source_at bs) in
      let tiny = ltb (length b.memory.cells) (cells_of (header_at bs).tables) in
      let z = first_of (tiny ⇒ MemoryTooSmall ∷ []) in
      let r = both x (or_else y z) (both v (or_else x (or_else y z)) h).1 in
      let q = both y z r.1 in
      result (source_at bs) (images b.memory.rules.hides bs small r.0 q.0) (ltb-false (length b.memory.cells) (cells_of (header_at bs).tables) (fails tiny MemoryTooSmall [] q.1))

  pub sound_leaves : (c : Call) (o : Option Seated) (b : Bench) → ImageOfBytes c → Sound o b → refused c b ≡ None → Sound (source_after c o) (leaves c b)
  sound_leaves (Seat image) o b small s h = record { lawful = s.lawful; low = s.low; from = seated_from (vec_items image) b small h }
  sound_leaves (Put t i w) o b small s h =
      let e : length (set b.memory.cells (base b t + i) w) ≡ length b.memory.cells = length-set b.memory.cells (base b t + i) w in
      record { lawful = lawful_on b.memory _ _ e s.lawful; low = s.low; from = as_many _ _ _ o b.seated e s.from }
  sound_leaves (Arg r w) o b small s h = record { lawful = s.lawful; low = length-set b.entry r w ∙ s.low; from = s.from }
  sound_leaves (Go room) o b small s h =
      let e : length (words (length b.memory.cells) (gone b).cells) ≡ length b.memory.cells = words_length (length b.memory.cells) 0 (gone b).cells in
      record { lawful = lawful_on b.memory _ _ e s.lawful; low = s.low; from = as_many _ _ _ o b.seated e s.from }
  sound_leaves (Look t i) o b small s h = record { lawful = lawful_on b.memory _ _ refl s.lawful; low = s.low; from = s.from }
  sound_leaves (Open t i) o b small s h = record { lawful = lawful_on b.memory _ _ refl s.lawful; low = s.low; from = s.from }
  sound_leaves Outcome o b small s h = s
  sound_leaves Clear o b small s h = record { lawful = lawful_on b.memory _ _ refl s.lawful; low = s.low; from = s.from }

  -- what holds of a call where it is refused and where it is accepted, holds of it
  pub by_refusal : (c : Call) (o : Option Seated) (b : Bench) (P : Option Refusal → Type 0) → ImageOfBytes c → Sound o b
      → ((e : Refusal) → P (Some e)) → (refused c b ≡ None → Sound (source_after c o) (leaves c b) → P None) → P (refused c b)
  by_refusal c o b P small s bad good = by (refused c b) refl
    where
      by : (why : Option Refusal) → refused c b ≡ why → P why
      by (Some e) h = bad e
      by None h = good h (sound_leaves c o b small s h)

  pub sound_after : (c : Call) (o : Option Seated) (b : Bench) → ImageOfBytes c → Sound o b → Sound (left (refused c b) o (source_after c o)) (after c b)
  sound_after c o b small s = by_refusal c o b (λ why. Sound (left why o (source_after c o)) (left why b (leaves c b))) small s (λ e. s) (λ h t. t)
