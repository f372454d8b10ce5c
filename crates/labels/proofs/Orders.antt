-- Labels are ordered, and two joined are the least above both.
use Rattle.std.proofs.Common.{◌≡◌, true, sym, ap, ◌∙◌}
use Rattle.labels.specs.Kinds.{LabelKind, Within, Lawful}

module _ {L : Type 0} (K : LabelKind L) (laws : Lawful K) where
  pub same : (a : L) → Within K a a
  same a = laws.twice a

  pub lowest : (a : L) → Within K K.least a
  lowest a = laws.lowest a

  pub further : (a b c : L) → Within K a b → Within K b c → Within K a c
  further a b c f g = ap (K.join a) (sym g) ∙ sym (laws.grouped a b c) ∙ ap (λ x. K.join x c) f ∙ g

  pub equal : (a b : L) → Within K a b → Within K b a → a ≡ b
  equal a b f g = sym g ∙ laws.swapped b a ∙ f

  pub left : (a b : L) → Within K a (K.join a b)
  left a b = sym (laws.grouped a a b) ∙ ap (λ x. K.join x b) (laws.twice a)

  pub right : (a b : L) → Within K b (K.join a b)
  right a b = ap (K.join b) (laws.swapped a b) ∙ left b a ∙ laws.swapped b a

  pub joined : (a b c : L) → Within K a c → Within K b c → Within K (K.join a b) c
  joined a b c f g = laws.grouped a b c ∙ ap (K.join a) g ∙ f

  pub upward : (a b : L) → Within K a b → K.secret a ≡ true → K.secret b ≡ true
  upward a b f h = ap K.secret (sym f) ∙ laws.upward a b h
