-- What reading answers, from its parts.
use Rattle.std.proofs.Common.{◌≡◌, ℕ, ◌+◌, ◌*◌, ◌≤◌, List, ◌++◌, length, take, drop, None, sym, ap, ◌∙◌, subst, arith, length-append}
use Rattle.std.proofs.lemmas.List.FromFn.{length-map-range_with_len}
use Rattle.std.proofs.lemmas.List.{take_at}
use Rattle.instructions.specs.declared.Instruction.{Instruction}
use Rattle.program.specs.declared.header.Header.{Header}
use Rattle.program.specs.Blocks.{Nested}
use Rattle.program.specs.Sound.{SoundHeader, SoundList}
use Rattle.header.specs.Layout.{header_at}
use Rattle.header.proofs.Rewritten.{Bytes, header_sound}
use Rattle.brackets.proofs.Nesting.{paired_is_nested}
use Rattle.image.specs.Images.{instruction_at, instructions, code_at, image_refusal, image_of}
use Rattle.image.proofs.Sounding.{SoundCode, as_list}
use Rattle.image.proofs.Answering.{header_is_good, code_sound, image_rewritten, brackets_passed}

module _ (bs : List ℕ) (h : Header) (is : h ≡ header_at bs) (none : None ≡ image_refusal bs) where
  pub sound_header : Bytes bs → SoundHeader h
  sound_header small = subst SoundHeader (sym is) (header_sound bs small (header_is_good bs (sym none)))

  module _ (before list : List Instruction) (filled : list ≡ instructions (drop 64 bs) h.count ++ drop h.count before) where
    pub code_is : take h.count list ≡ code_at bs
    code_is =
        ap (take h.count) filled
        ∙ take_at (instructions (drop 64 bs) h.count) (drop h.count before) h.count (length-map-range_with_len (instruction_at (drop 64 bs)) 0 h.count)
        ∙ ap (λ x. instructions (drop 64 bs) x.count) is

    room_after : h.count ≤ length before → h.count ≤ length list
    room_after le =
        let n = length-map-range_with_len (instruction_at (drop 64 bs)) 0 h.count in
        omega (arith, ap length filled, length-append (instructions (drop 64 bs) h.count) (drop h.count before))

    pub sound_list : h.count ≤ length before → SoundList h list
    sound_list le = as_list h list (room_after le) (subst (SoundCode h) (sym code_is) (subst (λ (x : Header). SoundCode x (code_at bs)) (sym is) (code_sound bs (sym none))))

    pub rewritten : Bytes bs → length bs ≡ 64 + 8 * h.count → image_of h (take h.count list) ≡ bs
    rewritten small size = (λ t. image_of (is t) (code_is t)) ∙ image_rewritten bs small (size ∙ ap (λ x. 64 + 8 * x.count) is) (sym none)

    pub nested : Nested (take h.count list)
    nested = subst Nested (sym code_is) ((paired_is_nested (code_at bs)).0 (brackets_passed bs (sym none)))

    pub list_is : list ≡ code_at bs ++ drop (header_at bs).count before
    list_is = filled ∙ ap (λ x. instructions (drop 64 bs) x.count ++ drop x.count before) is
