-- What writing leaves, and how it is read.
use Rattle.std.proofs.Common.{◌≡◌, ℕ, ◌+◌, ◌*◌, ◌^◌, ◌<◌, ◌≤◌, true, eqb, leb, List, [], ◌++◌, length, get_or, take, drop, None, Ok, vec_items, sym, ap, ◌∙◌, subst, arith, length-append}
use borrow.Rule.Slice.PartMut.{put_mid}
use Rattle.std.proofs.lemmas.List.{take_at, drop_at}
use Rattle.std.proofs.lemmas.Bool.{le-leb, eq-eqb, cond-false, le-ltb}
use Rattle.instructions.specs.declared.Instruction.{Instruction}
use Rattle.instructions.specs.declared.Instruction.TheVariants.{Again}
use Rattle.program.specs.declared.header.Header.{Header}
use Rattle.program.specs.declared.program.Program.{Program}
use Rattle.program.specs.declared.refusal.Reason.TheVariants.{NoHeader, BadHeader, BadLength, BadField}
use Rattle.program.specs.Refusals.{unless, or_else}
use Rattle.program.specs.Headers.{registers_of}
use Rattle.program.specs.Pairing.{pairing}
use Rattle.program.specs.Sound.{SoundHeader}
use Rattle.program.proofs.Firsts.{failing_none}
use Rattle.program.proofs.Refusals.{none}
use Rattle.fields.specs.Rows.{admitted}
use Rattle.fields.specs.Codec.{encode}
use Rattle.fields.proofs.Trips.{same_bounds}
use Rattle.header.specs.Layout.{header_at, header_good, header_bytes, header_refusal, pair_at}
use Rattle.header.proofs.Parts.{length_joined, part_more}
use Rattle.header.proofs.Written.{length_header}
use Rattle.header.proofs.Reread.{header_reread, header_is_good, count_at}
use Rattle.image.specs.Images.{limits_of, instructions, code_at, fields_good, fields_refusal, image_refusal, instruction_bytes, code_bytes, image_of, image_length}
use Rattle.program.specs.Programs.{code_of}
use Rattle.image.specs.Writing.{write_answer, ReadAs}
use Rattle.image.proofs.Sounding.{SoundCode, as_code}
use Rattle.image.proofs.Trips.{length_instruction, bound_word, fields_reread, code_reread}

-- a program that is sound, and its image
module _ (h : Header) (code : List Instruction) (sound_h : SoundHeader h) (sound_c : SoundCode h code) where
  words : (k : ℕ) → k < h.count → (encode (get_or code k Again)).k < 2 ^ 32
  words k lt = bound_word (registers_of h.kind) h.used (get_or code k Again) (sound_c.bounds k lt)

  pub length_image : length (image_of h code) ≡ image_length h
  length_image =
      omega (arith, length-append (header_bytes h) (code_bytes code), length_header h sound_h.eight, length_joined instruction_bytes 8 length_instruction code, sound_c.long)

  body_is : drop 64 (image_of h code) ≡ code_bytes code
  body_is = drop_at (header_bytes h) (code_bytes code) 64 (length_header h sound_h.eight)

  pub header_is : header_at (image_of h code) ≡ h
  header_is = header_reread h (code_bytes code) sound_h

  pub code_is : code_at (image_of h code) ≡ code
  code_is = (λ t. instructions (body_is t) (header_is t).count) ∙ code_reread code h.count sound_c.long words

  header_passes : header_refusal (image_of h code) ≡ None
  header_passes =
      let bs = image_of h code in
      let long : leb 64 (length bs) ≡ true = le-leb 64 (length bs) (omega (arith, length_image)) in
      let good : header_good bs ≡ true = header_is_good h (code_bytes code) sound_h in
      let size : eqb (length bs) (64 + 8 * pair_at bs 4) ≡ true = eq-eqb _ _ (omega (arith, length_image, count_at h (code_bytes code) sound_h)) in
      λ t. or_else (unless (long t) NoHeader 0) (or_else (unless (good t) BadHeader 0) (unless (size t) BadLength 0))

  fields_pass : fields_refusal h (code_bytes code) ≡ None
  fields_pass =
      failing_none BadField (fields_good h (code_bytes code)) 0 h.count
      (λ k _ l.
      let lt : k < length code = omega (arith, sound_c.long) in
      let lt' : k < h.count = omega arith in
      ap (admitted (limits_of h)) (fields_reread code k Again lt (words k lt')) ∙ same_bounds (limits_of h) (get_or code k Again) ∙ sound_c.bounds k lt')

  pub image_passes : image_refusal (image_of h code) ≡ None
  image_passes =
      (λ t. or_else (header_passes t) (or_else (fields_refusal (header_is t) (body_is t)) (pairing [] 0 (code_is t))))
      ∙ (λ t. or_else (fields_pass t) (none (pairing [] 0 code) sound_c.pairs t))

-- a program keeps what it is made with
header_of : (p : Program) → SoundHeader p.header
header_of p = record { eight = p.eight; few = p.few; tables = p.tables; cells = p.cells; short = p.short; narrow = p.narrow }

code_fits : (p : Program) → SoundCode p.header (code_of p)
code_fits p = as_code p.header (vec_items p.list) (record { room = p.room; bounds = p.bounds; pairs = p.pairs })

pub answered : (p : Program) (room : ℕ) → image_length p.header ≤ room → Ok (image_length p.header) ≡ write_answer p room
answered p room le = sym (cond-false _ _ _ (le-ltb room (image_length p.header) le))

-- the header, and then the code
pub bytes_are : (p : Program) (code : List Instruction) (e front body : List ℕ) (k : ℕ) → code ≡ code_of p → front ≡ header_bytes p.header → body ≡ code_bytes code → k ≡ 8 * p.header.count → put_mid 64 k (front ++ drop 64 e) body ≡ image_of p.header (code_of p) ++ drop (image_length p.header) e
bytes_are p code e front body k is first then size =
    let body_is = then ∙ ap code_bytes is in
    (λ t. put_mid 64 (size t) (first t ++ drop 64 e) (body_is t))
    ∙ part_more (header_bytes p.header) e (code_bytes (code_of p)) 64 (8 * p.header.count) (length_header p.header p.eight)

-- the bytes written are read as the program
pub reread : (p : Program) (n : ℕ) (e after : List ℕ) → n ≡ image_length p.header → after ≡ image_of p.header (code_of p) ++ drop (image_length p.header) e → ReadAs (take n after) p
reread p n e after long is =
    let h = p.header in
    let front : take n after ≡ image_of h (code_of p) =
    (λ t. take (long t) (is t)) ∙ take_at (image_of h (code_of p)) (drop (image_length h) e) (image_length h) (length_image h (code_of p) (header_of p) (code_fits p)) in
    subst (λ (bs : List ℕ). ReadAs bs p) (sym front)
    (record {
      accepted = image_passes h (code_of p) (header_of p) (code_fits p);
      header = header_is h (code_of p) (header_of p) (code_fits p);
      code = code_is h (code_of p) (header_of p) (code_fits p);
    })
