-- Code that was written is read as the same code, and code that was read is written as the same bytes.
use Rattle.std.proofs.Common.{◌≡◌, ℕ, ◌+◌, ◌*◌, ◌/◌, ◌%◌, ◌^◌, ◌<◌, ◌≤◌, true, List, [], ◌∷◌, length, get_or, take, drop, sym, refl, ap, ◌∙◌, arith}
use Rattle.std.proofs.lemmas.List.{take_all}
use Rattle.std.proofs.lemmas.List.FromFn.{fill_by_all}
use Rattle.std.proofs.lemmas.Bool.Decides.{nat_tests}
use Rattle.instructions.specs.declared.Instruction.{Instruction}
use Rattle.instructions.specs.declared.Instruction.TheVariants.{Again}
use Rattle.program.specs.Bounds.{bound}
use Rattle.fields.specs.declared.rows.Limits.{Limits}
use Rattle.fields.specs.Fields.{fields, fields_at, word_at, bytes_of}
use Rattle.fields.specs.Rows.{admitted}
use Rattle.fields.specs.Codec.{decode, encode}
use Rattle.fields.proofs.Trips.{decode_encode, encode_decode, word_bytes, bytes_word}
use Rattle.header.proofs.Rewritten.{Bytes, chunk_is, items_are}
use Rattle.header.proofs.Reread.{joined_at}
use Rattle.image.specs.Images.{instruction_at, instructions, instruction_bytes, code_bytes}

pub length_instruction : (i : Instruction) → length (instruction_bytes i) ≡ 8
length_instruction i = refl

instruction_part : (body : List ℕ) (k : ℕ) → Bytes body → 8 * k + 8 ≤ length body → bytes_of (fields_at body k) ≡ take 8 (drop (8 * k) body)
instruction_part body k small h =
    let i = 8 * k in
    let w = bytes_word (get_or body (i + 4) 0) (get_or body (i + 4 + 1) 0) (get_or body (i + 4 + 2) 0) (get_or body (i + 4 + 3) 0) (small (i + 4)) (small (i + 4 + 1)) (small (i + 4 + 2)) (small (i + 4 + 3)) in
    let e0 : i ≡ i + 0 = omega arith in
    let e5 : i + 4 + 1 ≡ i + 5 = omega arith in
    let e6 : i + 4 + 2 ≡ i + 6 = omega arith in
    let e7 : i + 4 + 3 ≡ i + 7 = omega arith in
    let at = λ (j : ℕ). get_or body j 0 in
    (λ t. at (e0 t) ∷ at (i + 1) ∷ at (i + 2) ∷ at (i + 3) ∷ w.0 t ∷ (w.1 ∙ ap at e5) t ∷ (w.2 ∙ ap at e6) t ∷ (w.3 ∙ ap at e7) t ∷ [])
    ∙ sym (chunk_is body i 8 h)

pub code_rewritten : (l : Limits) (body : List ℕ) (n : ℕ) → Bytes body → length body ≡ 8 * n → ((k : ℕ) → k < n → admitted l (fields_at body k) ≡ true) → code_bytes (instructions body n) ≡ body
code_rewritten l body n small size good =
    items_are instruction_bytes (instruction_at body) 8 0 body n
    (λ k h.
    let z : 8 * k ≡ 0 + 8 * k = omega arith in
    ap bytes_of (encode_decode l (fields_at body k) (good k h))
    ∙ instruction_part body k small (omega arith)
    ∙ ap (λ m. take 8 (drop m body)) z)
    ∙ take_all (8 * n) body (omega arith)

-- the words of an instruction within its bounds
pub bound_word : (r t : ℕ) (i : Instruction) → bound r t i ≡ true → (encode i).k < 2 ^ 32
bound_word r t i h = grind (arith, nat_tests)

pub fields_reread : (code : List Instruction) (k : ℕ) (d : Instruction) → k < length code → (encode (get_or code k d)).k < 2 ^ 32 → fields_at (code_bytes code) k ≡ encode (get_or code k d)
fields_reread code k d h small =
    let e = encode (get_or code k d) in
    let at : (j : ℕ) → j < 8 → get_or (code_bytes code) (8 * k + j) 0 ≡ get_or (instruction_bytes (get_or code k d)) j 0 = λ j l. joined_at instruction_bytes 8 length_instruction code k j d h l in
    let e0 : 8 * k ≡ 8 * k + 0 = omega arith in
    let e5 : 8 * k + 4 + 1 ≡ 8 * k + 5 = omega arith in
    let e6 : 8 * k + 4 + 2 ≡ 8 * k + 6 = omega arith in
    let e7 : 8 * k + 4 + 3 ≡ 8 * k + 7 = omega arith in
    let g = λ (i : ℕ). get_or (code_bytes code) i 0 in
    let p0 : g (8 * k) ≡ e.op = ap g e0 ∙ at 0 (omega arith) in
    let p1 : g (8 * k + 1) ≡ e.d = at 1 (omega arith) in
    let p2 : g (8 * k + 2) ≡ e.a = at 2 (omega arith) in
    let p3 : g (8 * k + 3) ≡ e.b = at 3 (omega arith) in
    let p4 : g (8 * k + 4) ≡ e.k % 256 = at 4 (omega arith) in
    let p5 : g (8 * k + 4 + 1) ≡ e.k / 256 % 256 = ap g e5 ∙ at 5 (omega arith) in
    let p6 : g (8 * k + 4 + 2) ≡ e.k / 65536 % 256 = ap g e6 ∙ at 6 (omega arith) in
    let p7 : g (8 * k + 4 + 3) ≡ e.k / 16777216 % 256 = ap g e7 ∙ at 7 (omega arith) in
    let pw : word_at (code_bytes code) (8 * k + 4) ≡ e.k = (λ t. p4 t + p5 t * 256 + p6 t * 65536 + p7 t * 16777216) ∙ word_bytes e.k small in
    λ t. fields (p0 t) (p1 t) (p2 t) (p3 t) (pw t)

pub code_reread : (code : List Instruction) (n : ℕ) → length code ≡ n → ((k : ℕ) → k < n → (encode (get_or code k Again)).k < 2 ^ 32) → instructions (code_bytes code) n ≡ code
code_reread code n long small =
    sym (fill_by_all (instruction_at (code_bytes code)) code n Again long
    (λ k h.
    let lt : k < length code = omega arith in
    sym (ap decode (fields_reread code k Again lt (small k h)) ∙ decode_encode (get_or code k Again))))
