-- Every source is nested blocks, noted by any labels, and so is what it becomes.
use Rattle.std.proofs.Common.{◌≡◌, Bool, true, false, [], get_or, take, take_all, is_some, le_of_eq, refl, ap, ◌∙◌, subst, arith}
use Rattle.instructions.specs.declared.Instruction.TheVariants.{Again}
use Rattle.program.specs.Headers.{registers_of}
use Rattle.program.specs.Pairing.{pairing}
use Rattle.program.specs.Bounds.{bound}
use Rattle.program.specs.Blocks.{Block, done, flat}
use Rattle.brackets.proofs.Nesting.{paired_is_nested}
use Rattle.program.proofs.Refusals.{none}
use Rattle.groups.specs.Groups.{lengths}
use Rattle.conversion.specs.Conversion.{convert}
use Rattle.conversion.specs.Trees.{Trees}
use Rattle.conversion.proofs.Notes.{note, note_flat, note_depth, note_noted}
use Rattle.conversion.proofs.Bounds.{block_fits}
use Rattle.conversion.proofs.Converted.{converted_flat, converted_depth}

pub trees : Trees
trees S h code s =
    let whole : take h.count code ≡ code = take_all h.count code (le_of_eq s.whole) in
    let b = (paired_is_nested code).0 (none (pairing [] 0 code) (subst (λ l. is_some (pairing [] 0 l) ≡ false) whole s.list.pairs)) in
    let t : Block Bool = note S b.0 0 in
    let row : flat t [] ≡ code = note_flat S b.0 0 [] ∙ b.1 in
    let small = converted_depth (lengths h.tables) t 0 0 done in
    let deep = note_depth S b.0 0 in
    record {
      block = t;
      row = row;
      notes = note_noted S b.0 0;
      deep = omega (arith, b.2);
      fits = block_fits 16 h.used code (λ p l. subst (λ k. bound (registers_of k) h.used (get_or code p Again) ≡ true) s.kind (s.list.bounds p (omega (arith, s.whole)))) t row;
      result = converted_flat (lengths h.tables) S t [] 0 done [] [] (note_noted S b.0 0) refl ∙ ap (convert (lengths h.tables) S [] 0) row;
      shallow = omega (arith, b.2);
    }
