-- Lists of 3,000 entries have room for every image, and for what every source becomes.
use Rattle.std.proofs.Common.{◌≡◌, ℕ, suc, ◌*◌, ◌≤◌, Bool, leb, List, [], ◌∷◌, ◌++◌, length, take, drop, Some, None, Option, vec_items, refl, ap, ◌∙◌, arith, length-append, length-drop}
use Rattle.std.proofs.lemmas.Bool.{le-leb}
use Rattle.std.proofs.lemmas.List.{take_at}
use Rattle.std.proofs.lemmas.List.FromFn.{length-map-range_with_len}
use Rattle.instructions.specs.declared.Instruction.{Instruction}
use Rattle.program.specs.declared.header.Kind.{Kind}
use Rattle.program.specs.declared.header.Kind.TheVariants.{Source, Converted}
use Rattle.program.specs.declared.opening.Marked.{Marked}
use Rattle.program.specs.declared.program.Program.{Program}
use Rattle.program.specs.declared.refusal.Reason.TheVariants.{NotASource, NoRoomForCode, NoRoomForResult, TooManySteps}
use Rattle.program.specs.declared.refusal.Refusal.{Refusal}
use Rattle.program.specs.Headers.{is_source}
use Rattle.program.specs.Programs.{code_of}
use Rattle.program.specs.Refusals.{unless, or_else}
use Rattle.program.proofs.Headers.{longest_short}
use Rattle.labels.specs.Kinds.{secrecy}
use Rattle.labels.specs.Passes.{opens}
use Rattle.labels.specs.Sets.{sets}
use Rattle.plan.specs.Planned.{plan_of}
use Rattle.counting.specs.Counting.{most_steps}
use Rattle.groups.specs.Groups.{lengths}
use Rattle.machine.proofs.Programs.{code_short}
use Rattle.header.specs.Layout.{header_at}
use Rattle.header.proofs.Rewritten.{Bytes, header_sound}
use Rattle.image.specs.Images.{instruction_at, code_at, image_refusal, read_refusal}
use Rattle.image.proofs.Answering.{header_is_good}
use Rattle.conversion.specs.Conversion.{becomes, convert}
use Rattle.converter.specs.Converting.{result_of, place_refusal, convert_refusal}
use Rattle.converter.proofs.Results.{source_short}
use Rattle.converter.proofs.Short.{becomes_short}
use Rattle.calls.specs.Benches.{seat}
use Rattle.calls.specs.Calls.{source_at, unconverted}
use Rattle.bench.specs.Seats.{program_seated}

module _ (bs : List ℕ) (bytes : Bytes bs) where
  image_short : image_refusal bs ≡ None → (header_at bs).count ≤ 3000
  image_short e =
      let s = header_sound bs bytes (header_is_good bs e) in
      omega (arith, longest_short (header_at bs).kind, s.short)

  with_room : (r : Option Refusal) (n : ℕ) → (r ≡ None → n ≤ 3000) → or_else r (unless (leb n 3000) NoRoomForCode n) ≡ r
  with_room None n h = ap (λ b. unless b NoRoomForCode n) (le-leb n 3000 (h refl))
  with_room (Some e) n h = refl

  pub image_fits : (room : ℕ) → room ≡ 3000 → read_refusal bs room ≡ image_refusal bs
  image_fits room e = ap (read_refusal bs) e ∙ with_room (image_refusal bs) (header_at bs).count image_short

-- the program that is read is the source that the image is, and its list is as long as before
module _ (bs : List ℕ) (p : Program) (before : List Instruction) (header : p.header ≡ header_at bs) (list : vec_items p.list ≡ code_at bs ++ drop (header_at bs).count before) where
  code_long : length (code_at bs) ≡ (header_at bs).count
  code_long = length-map-range_with_len (instruction_at (drop 64 bs)) 0 (header_at bs).count

  pub read_seated : program_seated p ≡ source_at bs
  read_seated = (λ t. seat (header t) (take (header t).count (list t))) ∙ ap (seat (header_at bs)) (take_at (code_at bs) (drop (header_at bs).count before) (header_at bs).count code_long)

  pub read_long : length before ≡ 3000 → length (vec_items p.list) ≡ 3000
  read_long e =
      let l = ap length list in
      let h = ap (λ x. x.count) header in
      omega (arith, l, h, code_short p, code_long, length-append (code_at bs) (drop (header_at bs).count before), length-drop (header_at bs).count before)

convert_short : (long : ℕ → ℕ) (S : ℕ → ℕ → Bool) (ks : List (Marked Bool)) (p : ℕ) (is : List Instruction) → length (convert long S ks p is) ≤ 15 * length is
convert_short long S ks p [] = omega arith
convert_short long S ks p (i ∷ is) =
    let now = becomes long (S p) ks p i in
    let later = convert long S (opens secrecy (S p) ks p i) (suc p) is in
    omega (arith, length-append now later, becomes_short long p (S p) ks i, convert_short long S (opens secrecy (S p) ks p i) (suc p) is)

module _ (s : Program) where
  result_short : s.header.kind ≡ Source → length (result_of s.header (code_of s)) ≤ 3000
  result_short kind = omega (arith, source_short s kind, convert_short (lengths s.header.tables) (sets (plan_of s.header (code_of s))) [] 0 (code_of s))

  few : (r steps : Option Refusal) (n : ℕ) → n ≤ 3000 → or_else r (or_else steps (unless (leb n 3000) NoRoomForResult n)) ≡ or_else r steps
  few None None n h = ap (λ b. unless b NoRoomForResult n) (le-leb n 3000 h)
  few None (Some e) n h = refl
  few (Some e) steps n h = refl

  of_kind : (k : Kind) → s.header.kind ≡ k → (hides : Bool) → or_else (unless (is_source k) NotASource 0) (or_else (place_refusal s.header (code_of s) hides) (or_else (unless (leb (most_steps (result_of s.header (code_of s))) 1000000) TooManySteps 0) (unless (leb (length (result_of s.header (code_of s))) 3000) NoRoomForResult (length (result_of s.header (code_of s))))))
      ≡ or_else (unless (is_source k) NotASource 0) (or_else (place_refusal s.header (code_of s) hides) (unless (leb (most_steps (result_of s.header (code_of s))) 1000000) TooManySteps 0))
  of_kind Source e hides = few (place_refusal s.header (code_of s) hides) _ _ (result_short e)
  of_kind Converted e hides = refl

  pub result_fits : (hides : Bool) (room : ℕ) → room ≡ 3000 → convert_refusal s.header (code_of s) hides room ≡ unconverted hides (program_seated s)
  result_fits hides room e = ap (convert_refusal s.header (code_of s) hides) e ∙ of_kind s.header.kind refl hides
