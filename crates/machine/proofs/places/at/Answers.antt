use Rattle.std.proofs.Common.{◌≡◌, ◌+◌, ◌<◌, ◌∷◌, length, get_or, drop, vec_items, sym, ap, ◌∙◌, subst, arith, length-take}
use Rattle.std.proofs.lemmas.List.{drop_more, get_or_default, get_or-take}
use Rattle.instructions.specs.declared.Value.TheVariants.{Const}
use Rattle.instructions.specs.declared.Op.TheVariants.{Set}
use Rattle.instructions.specs.declared.Instruction.{Instruction}
use Rattle.instructions.specs.declared.Instruction.TheVariants.{Do, Again}
use Rattle.program.specs.Headers.{registers_of}
use Rattle.machine.specs.Fits.{Fit}
use Rattle.program.specs.Programs.{code_of}
use Rattle.machine.proofs.Fitting.{few_registers, fits}
use Rattle.machine.proofs.places.at.Goals as goal

pub returns : goal.returns
returns c =
    let s = c.args.program.now in
    let h = s.header in
    let p = c.args.place in
    let list = vec_items s.list in
    let code = code_of s in
    let z : Instruction = Do (Set 0 (Const 0)) in
    let lt : p < length code = omega (arith, length-take h.count list, s.room, c.requires) in
    let e : get_or c.code.result.now p z ≡ get_or code p z = ap (λ l. get_or l p z) c.code.ensures in
    let b : get_or code p z ≡ get_or list p Again = get_or_default code p z Again lt ∙ get_or-take h.count list p Again c.requires in
    record {
      here = drop_more code p z lt ∙ ap (λ x. x ∷ drop (p + 1) code) (sym e);
      fits = subst (Fit 32 h.used) (sym (e ∙ b)) (fits (registers_of h.kind) h.used (few_registers h.kind) (get_or list p Again) (s.bounds p c.requires));
    }
