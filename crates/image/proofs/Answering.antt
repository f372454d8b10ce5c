-- The answer of reading, from the answers of its checks.
use Rattle.std.proofs.Common.{◌≡◌, ℕ, zero, suc, ◌+◌, ◌*◌, ◌<◌, Bool, true, false, leb, ◌⊎◌, List, [], ◌++◌, length, drop, is_some, Some, None, Option, sym, refl, ap, ◌∙◌, subst, ⊎_elim, arith, length-drop, take-append-drop, get_or-drop}
use Rattle.std.proofs.lemmas.List.FromFn.{length-map-range_with_len, get_or-map-range_with_len}
use Rattle.instructions.specs.declared.Instruction.TheVariants.{Again}
use Rattle.program.specs.declared.header.Header.{Header}
use Rattle.program.specs.declared.refusal.Reason.{Reason}
use Rattle.program.specs.declared.refusal.Reason.TheVariants.{NoHeader, BadHeader, BadLength, BadField, BadBracket, TooDeep, NoRoomForCode, NotASource, SecretRepeat, SecretIndex, PublicStore, TooManySteps, NoRoomForResult, NoRoomForImage, AlreadySeated, MemoryTooSmall, NoneSeated, NoSuchTable, IndexTooLarge, NoFreeMarks, NoSuchRegister, SecretTable, NoRoomForVisits, NoOutcome, OutsideTable, NoRoomForMarks}
use Rattle.program.specs.declared.refusal.Refusal.{Refusal}
use Rattle.program.specs.Refusals.{unless, or_else}
use Rattle.program.specs.Headers.{registers_of}
use Rattle.program.specs.Bounds.{bound}
use Rattle.program.specs.Firsts.{first_failing}
use Rattle.program.specs.Pairing.{pairing}
use Rattle.program.specs.Blocks.{Nested}
use Rattle.program.proofs.Refusals.{both, passed}
use Rattle.program.proofs.Firsts.{none_failing}
use Rattle.fields.specs.declared.fields.Fields.{Fields}
use Rattle.fields.specs.declared.rows.Limits.{Limits}
use Rattle.fields.specs.Fields.{fields_at}
use Rattle.fields.specs.Rows.{admitted}
use Rattle.fields.specs.Codec.{decode}
use Rattle.fields.proofs.Trips.{encode_decode, same_bounds}
use Rattle.header.specs.Layout.{header_at, header_good, header_refusal}
use Rattle.header.proofs.Rewritten.{Bytes, header_rewritten}
use Rattle.brackets.proofs.Nesting.{paired_is_nested}
use Rattle.image.specs.Images.{limits_of, instruction_at, instructions, code_at, fields_good, fields_refusal, image_refusal, read_refusal, image_of}
use Rattle.image.proofs.Sounding.{SoundCode}
use Rattle.image.proofs.Trips.{code_rewritten}

module _ (bs : List ℕ) (h : Header) (good : None ≡ header_refusal bs) (is : h ≡ header_at bs) where
  at_fields : or_else (fields_refusal h (drop 64 bs)) (pairing [] 0 (instructions (drop 64 bs) h.count)) ≡ image_refusal bs
  at_fields = λ t. or_else (good t) (or_else (fields_refusal (is t) (drop 64 bs)) (pairing [] 0 (instructions (drop 64 bs) (is t).count)))

  pub bad_field : (e : Refusal) → Some e ≡ fields_refusal h (drop 64 bs) → Some e ≡ image_refusal bs
  bad_field e f = ap (λ x. or_else x (pairing [] 0 (instructions (drop 64 bs) h.count))) f ∙ at_fields

  pub after_fields : (o : Option Refusal) → None ≡ fields_refusal h (drop 64 bs) → o ≡ pairing [] 0 (instructions (drop 64 bs) h.count) → o ≡ image_refusal bs
  after_fields o f b = b ∙ ap (λ x. or_else x (pairing [] 0 (instructions (drop 64 bs) h.count))) f ∙ at_fields

-- an image that is not refused
module _ (bs : List ℕ) (none : image_refusal bs ≡ None) where
  header_passed : header_refusal bs ≡ None
  header_passed = (both (header_refusal bs) _ none).0

  rest_passed : or_else (fields_refusal (header_at bs) (drop 64 bs)) (pairing [] 0 (code_at bs)) ≡ None
  rest_passed = (both (header_refusal bs) _ none).1

  pub brackets_passed : pairing [] 0 (code_at bs) ≡ None
  brackets_passed = (both (fields_refusal (header_at bs) (drop 64 bs)) _ rest_passed).1

  pub fields_passed : (k : ℕ) → k < (header_at bs).count → admitted (limits_of (header_at bs)) (fields_at (drop 64 bs) k) ≡ true
  fields_passed k h =
      none_failing BadField (fields_good (header_at bs) (drop 64 bs)) 0 (header_at bs).count (both (fields_refusal (header_at bs) (drop 64 bs)) _ rest_passed).0 k (omega arith) (omega arith)

  pub header_is_good : header_good bs ≡ true
  header_is_good = passed (header_good bs) BadHeader 0 (both (unless (header_good bs) BadHeader 0) _ (both (unless (leb 64 (length bs)) NoHeader 0) _ header_passed).1).0

within_decoded : (l : Limits) (f : Fields) → admitted l f ≡ true → bound l.registers l.tables (decode f) ≡ true
within_decoded l f e = sym (same_bounds l (decode f)) ∙ ap (admitted l) (encode_decode l f e) ∙ e

pub code_sound : (bs : List ℕ) → image_refusal bs ≡ None → SoundCode (header_at bs) (code_at bs)
code_sound bs none =
    let h = header_at bs in
    let body = drop 64 bs in
    record {
      long = length-map-range_with_len (instruction_at body) 0 h.count;
      bounds = λ k lt.
          ap (bound (registers_of h.kind) h.used) (get_or-map-range_with_len (instruction_at body) 0 h.count k k Again lt (omega arith))
          ∙ within_decoded (limits_of h) (fields_at body k) (fields_passed bs none k lt);
      pairs = ap is_some (brackets_passed bs none);
    }

-- an image that is not refused is written as the same bytes
pub image_rewritten : (bs : List ℕ) → Bytes bs → length bs ≡ 64 + 8 * (header_at bs).count → image_refusal bs ≡ None → image_of (header_at bs) (code_at bs) ≡ bs
image_rewritten bs small size none =
    let body : length (drop 64 bs) ≡ 8 * (header_at bs).count = omega (arith, length-drop 64 bs) in
    let small_body : Bytes (drop 64 bs) = λ k. subst (λ (n : ℕ). n < 256) (sym (get_or-drop 64 bs k 0)) (small (64 + k)) in
    (λ t.
    header_rewritten bs small (omega arith) (header_is_good bs none) t
    ++ code_rewritten (limits_of (header_at bs)) (drop 64 bs) (header_at bs).count small_body body (fields_passed bs none) t)
    ∙ take-append-drop 64 bs

-- reasons that brackets have
abbrev of_brackets : Reason → Bool
of_brackets NoHeader = false
of_brackets BadHeader = false
of_brackets BadLength = false
of_brackets BadField = false
of_brackets BadBracket = true
of_brackets TooDeep = true
of_brackets NoRoomForCode = false
of_brackets NotASource = false
of_brackets SecretRepeat = false
of_brackets SecretIndex = false
of_brackets PublicStore = false
of_brackets TooManySteps = false
of_brackets NoRoomForResult = false
of_brackets NoRoomForImage = false
of_brackets AlreadySeated = false
of_brackets MemoryTooSmall = false
of_brackets NoneSeated = false
of_brackets NoSuchTable = false
of_brackets IndexTooLarge = false
of_brackets NoFreeMarks = false
of_brackets NoSuchRegister = false
of_brackets SecretTable = false
of_brackets NoRoomForVisits = false
of_brackets NoOutcome = false
of_brackets OutsideTable = false
of_brackets NoRoomForMarks = false

-- nothing is refused, or for another reason
abbrev Other : Option Refusal → Type 0
Other None = Unit {0}
Other (Some r) = of_brackets r.reason ≡ false

other_unless : (b : Bool) (why : Reason) (p : ℕ) → of_brackets why ≡ false → Other (unless b why p)
other_unless true why p e = tt
other_unless false why p e = e

other_else : (x y : Option Refusal) → Other x → Other y → Other (or_else x y)
other_else None y a b = b
other_else (Some r) y a b = a

other_first : (good : ℕ → Bool) (p n : ℕ) → Other (first_failing BadField good p n)
other_first good p zero = tt
other_first good p (suc n) = other_else (unless (good p) BadField p) _ (other_unless (good p) BadField p refl) (other_first good (suc p) n)

no_brackets : (bs : List ℕ) → pairing [] 0 (code_at bs) ≡ None → Other (image_refusal bs)
no_brackets bs e =
    let none : Other (pairing [] 0 (code_at bs)) = subst Other (sym e) tt in
    other_else (header_refusal bs) _
    (other_else (unless (leb 64 (length bs)) NoHeader 0) _ (other_unless _ NoHeader 0 refl)
    (other_else (unless (header_good bs) BadHeader 0) _ (other_unless _ BadHeader 0 refl) (other_unless _ BadLength 0 refl)))
    (other_else (fields_refusal (header_at bs) (drop 64 bs)) _ (other_first _ 0 (header_at bs).count) none)

refuted : (b : Bool) → b ≡ false → b ≡ true → ⊥
refuted b p q = let z : ◌≡◌ {A = ℕ} 0 1 = cc in omega arith

-- instructions whose brackets are refused are not nested blocks written out
pub not_nested : (bs : List ℕ) (room : ℕ) (r : Refusal) → Some r ≡ read_refusal bs room → (r.reason ≡ BadBracket) ⊎ (r.reason ≡ TooDeep) → Nested (code_at bs) → ⊥
not_nested bs room r e why nested =
    let image : Other (image_refusal bs) = no_brackets bs ((paired_is_nested (code_at bs)).1 nested) in
    let all : Other (read_refusal bs room) = other_else (image_refusal bs) _ image (other_unless _ NoRoomForCode (header_at bs).count refl) in
    let other : Other (Some r) = subst Other (sym e) all in
    ⊎_elim
    (λ (x : r.reason ≡ BadBracket). refuted (of_brackets r.reason) other (ap of_brackets x))
    (λ (x : r.reason ≡ TooDeep). refuted (of_brackets r.reason) other (ap of_brackets x))
    why

-- what is read was not refused as an image
pub image_passed : (bs : List ℕ) (room : ℕ) → None ≡ read_refusal bs room → None ≡ image_refusal bs
image_passed bs room none = sym (both (image_refusal bs) _ (sym none)).0
