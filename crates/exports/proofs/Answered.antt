-- What is refused of an image, by the program that was read, and what writing a program answers.
use Rattle.std.proofs.Common.{◌≡◌, ℕ, Bool, true, false, cond, ltb, leb, List, ◌++◌, length, take, drop, Some, None, Ok, Err, vec_items, Option, Result, is_ok, sym, refl, ap, ◌∙◌, arith, length-append}
use Rattle.std.proofs.lemmas.List.{take_at, length-take-le}
use Rattle.instructions.specs.declared.Instruction.{Instruction}
use Rattle.program.specs.declared.program.Program.{Program}
use Rattle.program.specs.declared.refusal.Refusal.{Refusal}
use Rattle.program.specs.declared.refusal.Reason.TheVariants.{NoRoomForImage}
use Rattle.program.specs.Programs.{code_of}
use Rattle.program.specs.Refusals.{refusal, unless, or_else}
use Rattle.header.specs.Layout.{header_bytes}
use Rattle.header.proofs.Parts.{length_joined}
use Rattle.header.proofs.Written.{length_header}
use Rattle.image.specs.Images.{instruction_bytes, code_bytes, image_of, image_length}
use Rattle.image.specs.Writing.{write_answer, written}
use Rattle.image.proofs.Trips.{length_instruction}
use Rattle.plan.specs.Planned.{plan_refusal}
use Rattle.converter.specs.Converting.{Accepted, result_of, result_header}
use Rattle.calls.specs.Benches.{seat}
use Rattle.calls.specs.Calls.{unconverted, converted}
use Rattle.bench.specs.Seats.{program_seated}
use Rattle.exports.specs.declared.failed.Failed.TheVariants.{Refused}
use Rattle.exports.specs.Reading.{Read, Written, unwritten}
use Rattle.exports.specs.Planning.{unlabelled}
use Rattle.exports.specs.Converting.{crooked}

module _ (bs : List ℕ) (p : Program) (r : Read bs p) where
  pub unlabelled_is : (room : ℕ) → unlabelled bs room ≡ plan_refusal p.header room
  unlabelled_is room =
      let header = sym (ap (λ s. s.header) r.source) in
      λ t. or_else (r.accepted t) (plan_refusal (header t) room)

  pub crooked_is : (hides : Bool) → crooked bs hides ≡ unconverted hides (program_seated p)
  crooked_is hides =
      let source = sym r.source in
      λ t. or_else (r.accepted t) (unconverted hides (source t))

-- what converting makes of a program, by what it answers
pub converted_is : (s p : Program) (hides : Bool) (before : List Instruction) → Accepted s hides before p → program_seated p ≡ converted (program_seated s)
converted_is s p hides before h =
    let result = result_of s.header (code_of s) in
    (λ t. seat (h.header t) (take (h.header t).count (h.list t)))
    ∙ ap (seat (result_header s.header (length result))) (take_at result (drop (length result) before) (length result) refl)

abbrev size : Result ℕ Refusal → ℕ
size (Ok n) = n
size (Err e) = 0

abbrev why : Refusal → Result ℕ Refusal → Refusal
why other (Ok n) = other
why other (Err e) = e

unlike : (n : ℕ) (e : Refusal) → Ok n ≡ Err e → ⊥
unlike n e h =
    let z : ◌≡◌ {A = ℕ} 0 1 = ap (λ r. cond (is_ok r) 0 1) h in
    omega (arith, z)

module _ (p : Program) (bs : List ℕ) (is : image_of p.header (code_of p) ≡ bs) where
  long : image_length p.header ≡ length bs
  long =
      omega (arith, ap length is, length-append (header_bytes p.header) (code_bytes (code_of p)), length_header p.header p.eight, length_joined instruction_bytes 8 length_instruction (code_of p), length-take-le p.header.count (vec_items p.list) p.room)

  accepts : (room n : ℕ) (b : Bool) → ltb room (image_length p.header) ≡ b → Ok n ≡ cond b (Err (refusal NoRoomForImage (image_length p.header))) (Ok (image_length p.header)) → (unwritten None (length bs) room ≡ None) × (n ≡ length bs)
  accepts room n true test h = absurd (unlike n _ h)
  accepts room n false test h =
      let fits : leb (length bs) room ≡ true = grind (arith, test, long) in
      (ap (λ b. unless b NoRoomForImage (length bs)) fits, ap size h ∙ long)

  denies : (room : ℕ) (e : Refusal) (b : Bool) → ltb room (image_length p.header) ≡ b → Err e ≡ cond b (Err (refusal NoRoomForImage (image_length p.header))) (Ok (image_length p.header)) → unwritten None (length bs) room ≡ Some e
  denies room e false test h = absurd (unlike _ e (sym h))
  denies room e true test h =
      let full : leb (length bs) room ≡ false = grind (arith, test, long) in
      ap (λ b. unless b NoRoomForImage (length bs)) full ∙ (λ t. Some (refusal NoRoomForImage (sym long t))) ∙ ap (λ r. Some (why e r)) (sym h)

  pub accepted : (w : Option Refusal) → w ≡ None → (before after : List ℕ) (n : ℕ) → Ok n ≡ write_answer p (length before) → after ≡ written (Ok n) p before → Written w bs before after (Ok n)
  accepted w none before after n h left =
      let a = accepts (length before) n _ refl h in
      let l = long ∙ sym a.1 in
      (ap (λ v. unwritten v (length bs) (length before)) none ∙ a.0, a.1, left ∙ (λ t. is t ++ drop (l t) before))

  pub denied : (w : Option Refusal) → w ≡ None → (before after : List ℕ) (e : Refusal) → Err e ≡ write_answer p (length before) → after ≡ written (Err e) p before → Written w bs before after (Err (Refused e))
  denied w none before after e h left = (ap (λ v. unwritten v (length bs) (length before)) none ∙ denies (length before) e _ refl h, left)
