use Rattle.std.proofs.Common.{◌+◌, ◌<◌, ◌∷◌, length, drop, sym, ap, ◌∙◌, subst, rules}
use Rattle.std.proofs.lemmas.List.{get_or_default, drop_more}
use Rattle.instructions.specs.declared.Instruction.TheVariants.{Again}
use Rattle.machine.specs.Fits.{Fit}
use Rattle.counting.proofs.Adding.{count_none, count_more}
use Rattle.counting.proofs.pass.most.Goals as goal

pub add-requires : goal.add-requires
add-requires c =
    let code = c.args.code.now in
    let l = c.loop-instruction in
    let lt : l.instruction-index < length code = search rules in
    subst (Fit 32 8) (sym (get_or_default code l.instruction-index _ Again lt)) (c.requires.fits l.instruction-index lt)

pub loop-instruction-init : goal.loop-instruction-init
loop-instruction-init c = count_none _ c.args.code.now c.requires.pairs _ c.new.ensures

pub loop-instruction-preserved : goal.loop-instruction-preserved
loop-instruction-preserved c =
    let code = c.args.code.now in
    let l = c.loop-instruction in
    let p = l.instruction-index in
    let lt : p < length code = search rules in
    let here = drop_more code p Again lt ∙ ap (λ i. i ∷ drop (p + 1) code) (sym (get_or_default code p _ Again lt)) in
    count_more _ code c.requires.pairs here lt l.invariant c.add.ensures c.add.new.self.small
