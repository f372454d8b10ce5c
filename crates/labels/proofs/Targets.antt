-- Every way leads to a place of the program.
use Rattle.std.proofs.Common.{ℕ, suc, ◌<◌, Bool, true, false, List, [], ◌∷◌, arith}
use Rattle.instructions.specs.declared.Instruction.{Instruction}
use Rattle.instructions.specs.declared.Instruction.TheVariants.{Do, If, Else, End, Repeat, Again}
use Rattle.program.specs.declared.opening.Opening.{Opening}
use Rattle.program.specs.declared.opening.Opening.TheVariants.{Then, Otherwise, Loop}
use Rattle.program.specs.declared.opening.Marked.{Marked}
use Rattle.program.specs.Openings.{Before}
use Rattle.labels.specs.Kinds.{LabelKind}
use Rattle.labels.specs.declared.way.Way.{Way}
use Rattle.labels.specs.Rules.{Each, else_ways, end_ways, again_ways, ways}
use Rattle.labels.specs.Passes.{Ahead}

-- all lead to places below n
abbrev pub Targets : ℕ → List Way → Type 0
Targets n ws = Each (λ w. w.to < n) ws

else_within : (o : Opening) (c : Bool) (p n : ℕ) → suc p < n → Targets n (else_ways o c p)
else_within (Then q a) true p n h = (omega arith, (omega arith, tt))
else_within (Then q a) false p n h = (omega arith, tt)
else_within (Otherwise q a m) c p n h = tt
else_within (Loop q) c p n h = tt

end_within : (o : Opening) (p n : ℕ) → suc p < n → Targets n (end_ways o p)
end_within (Then q a) p n h = (omega arith, (omega arith, tt))
end_within (Otherwise q a m) p n h = (omega arith, (omega arith, tt))
end_within (Loop q) p n h = tt

again_within : (o : Opening) (p n : ℕ) → suc p < n → Before p o → Targets n (again_ways o p)
again_within (Then q a) p n h b = tt
again_within (Otherwise q a m) p n h b = tt
again_within (Loop q) p n h b = (omega arith, (omega arith, (omega arith, tt)))

module _ {L : Type 0} (K : LabelKind L) where
  pub within : (ks : List (Marked L)) (p n : ℕ) (i : Instruction) → suc p < n → Ahead p ks → Targets n (ways K ks p i)
  within ks p n (Do op) h a = tt
  within ks p n (If r) h a = (omega arith, tt)
  within [] p n Else h a = tt
  within (k ∷ ks) p n Else h a = else_within k.opening (K.secret k.label) p n h
  within [] p n End h a = tt
  within (k ∷ ks) p n End h a = end_within k.opening p n h
  within ks p n (Repeat r k) h a = (omega arith, tt)
  within [] p n Again h a = tt
  within (k ∷ ks) p n Again h a = again_within k.opening p n h a
