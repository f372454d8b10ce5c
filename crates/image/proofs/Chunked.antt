-- The body of an image in chunks of eight bytes.
use Rattle.std.proofs.Common.{◌≡◌, ℕ, zero, suc, ◌+◌, ◌*◌, ◌/◌, ◌<◌, ◌≤◌, Bool, List, [], map, length, get_or, drop, refl, ap, ◌∙◌, arith, length-drop}
use Rattle.std.specs.Simd.{first_chunks}
use Rattle.std.proofs.lemmas.List.{get_or-map, length-map}
use Rattle.std.proofs.lemmas.List.FromFn.{fill_by_all}
use Rattle.instructions.specs.declared.Instruction.TheVariants.{Again}
use Rattle.program.specs.declared.header.Header.{Header}
use Rattle.program.specs.declared.refusal.Reason.{Reason}
use Rattle.program.specs.declared.refusal.Reason.TheVariants.{BadField}
use Rattle.program.specs.Refusals.{unless, or_else}
use Rattle.program.specs.Firsts.{first_failing}
use Rattle.fields.specs.declared.rows.Limits.{Limits}
use Rattle.fields.specs.Fields.{fields, fields_at}
use Rattle.fields.specs.Rows.{admitted}
use Rattle.fields.specs.Codec.{decode}
use Rattle.header.proofs.Chunks.{in_chunk}
use Rattle.image.specs.Images.{limits_of, instruction_of, instruction_at, instructions, fields_refusal}

first_same : (why : Reason) (f g : ℕ → Bool) (p n : ℕ) → ((k : ℕ) → p ≤ k → k < p + n → f k ≡ g k) → first_failing why f p n ≡ first_failing why g p n
first_same why f g p zero h = refl
first_same why f g p (suc n) h = λ t. or_else (unless (h p (omega arith) (omega arith) t) why p) (first_same why f g (suc p) n (λ k l u. h k (omega arith) (omega arith)) t)

module _ (body : List ℕ) (n : ℕ) (code : List (List ℕ)) (long : length code ≡ n) (cut : code ≡ first_chunks 8 n body) where
  byte_at : (p j k : ℕ) → p < n → j < 8 → 8 * p + j ≡ k → get_or (get_or code p []) j 0 ≡ get_or body k 0
  byte_at p j k h l e = ap (λ xs. get_or (get_or xs p []) j 0) cut ∙ in_chunk 8 n body p j [] h l ∙ ap (λ m. get_or body m 0) e

  fields_in : (p : ℕ) → p < n → fields_at (get_or code p []) 0 ≡ fields_at body p
  fields_in p h =
      let p0 = byte_at p 0 (8 * p) h (omega arith) (omega arith) in
      let p1 = byte_at p 1 (8 * p + 1) h (omega arith) (omega arith) in
      let p2 = byte_at p 2 (8 * p + 2) h (omega arith) (omega arith) in
      let p3 = byte_at p 3 (8 * p + 3) h (omega arith) (omega arith) in
      let p4 = byte_at p 4 (8 * p + 4) h (omega arith) (omega arith) in
      let p5 = byte_at p 5 (8 * p + 4 + 1) h (omega arith) (omega arith) in
      let p6 = byte_at p 6 (8 * p + 4 + 2) h (omega arith) (omega arith) in
      let p7 = byte_at p 7 (8 * p + 4 + 3) h (omega arith) (omega arith) in
      λ t. fields (p0 t) (p1 t) (p2 t) (p3 t) (p4 t + p5 t * 256 + p6 t * 65536 + p7 t * 16777216)

  pub code_same : map instruction_of code ≡ instructions body n
  code_same =
      fill_by_all (instruction_at body) (map instruction_of code) n Again (length-map code instruction_of ∙ long)
      (λ k h. get_or-map instruction_of code k [] Again (omega (arith, long)) ∙ ap decode (fields_in k h))

  pub fields_same : (l : Limits) → first_failing BadField (λ p. admitted l (fields_at (get_or code p []) 0)) 0 (length code) ≡ first_failing BadField (λ p. admitted l (fields_at body p)) 0 n
  fields_same l =
      ap (first_failing BadField (λ p. admitted l (fields_at (get_or code p []) 0)) 0) long
      ∙ first_same BadField (λ p. admitted l (fields_at (get_or code p []) 0)) (λ p. admitted l (fields_at body p)) 0 n (λ k _ h. ap (admitted l) (fields_in k (omega arith)))

-- the code of an image as long as its header says
module _ (bs : List ℕ) (h : Header) (code : List (List ℕ)) (size : length bs ≡ 64 + 8 * h.count) (chunks : code ≡ first_chunks 8 (length (drop 64 bs) / 8) (drop 64 bs)) (count : length code ≡ length (drop 64 bs) / 8) where
  eighth : length (drop 64 bs) / 8 ≡ h.count
  eighth = let n = length-drop 64 bs in omega arith

  pub code_many : length code ≡ h.count
  code_many = count ∙ eighth

  code_cut : code ≡ first_chunks 8 h.count (drop 64 bs)
  code_cut = chunks ∙ ap (λ n. first_chunks 8 n (drop 64 bs)) eighth

  pub code_read : map instruction_of code ≡ instructions (drop 64 bs) h.count
  code_read = code_same (drop 64 bs) h.count code code_many code_cut

  pub fields_read : (l : Limits) → l ≡ limits_of h → first_failing BadField (λ p. admitted l (fields_at (get_or code p []) 0)) 0 (length code) ≡ fields_refusal h (drop 64 bs)
  fields_read l e = fields_same (drop 64 bs) h.count code code_many code_cut l ∙ ap (λ m. first_failing BadField (λ p. admitted m (fields_at (drop 64 bs) p)) 0 h.count) e
