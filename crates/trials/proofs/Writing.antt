-- What writing a program leaves, where the program was read from an image.
use Rattle.std.proofs.Common.{◌≡◌, ℕ, Bool, true, false, cond, ltb, List, ◌++◌, length, drop, replicate, Ok, Err, vec_items, Result, ap, ◌∙◌, arith, length-append}
use Rattle.std.proofs.lemmas.List.{length-take-le}
use Rattle.program.specs.declared.program.Program.{Program}
use Rattle.program.specs.declared.refusal.Refusal.{Refusal}
use Rattle.program.specs.declared.refusal.Reason.TheVariants.{NoRoomForImage}
use Rattle.program.specs.Refusals.{refusal}
use Rattle.header.specs.Layout.{header_bytes}
use Rattle.header.proofs.Parts.{length_joined}
use Rattle.header.proofs.Written.{length_header}
use Rattle.image.specs.Images.{instruction_bytes, code_bytes, image_of, image_length}
use Rattle.program.specs.Programs.{code_of}
use Rattle.image.specs.Writing.{write_answer, written}
use Rattle.image.proofs.Trips.{length_instruction}
use Rattle.trials.specs.declared.answer.Answer.{Answer}
use Rattle.trials.specs.declared.answer.Answer.TheVariants.{Refused, Written}
use Rattle.trials.specs.Answers.{bytes_answer, judged}
use Rattle.trials.proofs.Judging.{judged_written, judged_refused}

module _ (p : Program) (bs : List ℕ) (room : ℕ) (is : image_of p.header (code_of p) ≡ bs) where
  long : image_length p.header ≡ length bs
  long =
      omega (arith, ap length is, length-append (header_bytes p.header) (code_bytes (code_of p)), length_header p.header p.eight, length_joined instruction_bytes 8 length_instruction (code_of p), length-take-le p.header.count (vec_items p.list) p.room)

  by_room : (short : Bool) → judged (cond short (Err (refusal NoRoomForImage (length bs))) (Ok (length bs))) (written (cond short (Err (refusal NoRoomForImage (length bs))) (Ok (length bs))) p (replicate room 165)) bs ≡ cond short (Refused (refusal NoRoomForImage (length bs))) (Written (length bs))
  by_room true = judged_refused (refusal NoRoomForImage (length bs)) bs room
  by_room false = (λ t. judged (Ok (length bs)) (is t ++ drop (long t) (replicate room 165)) bs) ∙ judged_written bs room

  pub written_answer : (before after : List ℕ) (r : Result ℕ Refusal) (a : Answer) → length before ≡ room → before ≡ replicate room 165 → r ≡ write_answer p (length before) → after ≡ written r p before → a ≡ judged r after bs → a ≡ bytes_answer (length bs) room
  written_answer before after r a size filled says leaves judges =
      let told : r ≡ cond (ltb room (length bs)) (Err (refusal NoRoomForImage (length bs))) (Ok (length bs)) = says ∙ (λ t. cond (ltb (size t) (long t)) (Err (refusal NoRoomForImage (long t))) (Ok (long t))) in
      judges
      ∙ (λ t. judged (told t) ((leaves ∙ (λ u. written (told u) p (filled u))) t) bs)
      ∙ by_room (ltb room (length bs))
