-- A line layer answers as the memory below, with each mark divided.
use Rattle.std.specs.Prelude.{◌≡◌, ℕ, ◌-◌, List, map, length, Some, None, Option, refl}
use Rattle.std.proofs.Common.{sym, ap, ◌∙◌}
use Rattle.std.proofs.lemmas.List.{length-map, map-append}
use Rattle.program.specs.declared.refusal.Refusal.{Refusal}
use Rattle.program.specs.Hold.{hold}
use Rattle.memory.specs.declared.Access.{Access}
use Rattle.memory.specs.Description.{Mark, Description, free, marked}
use Rattle.memory.specs.Accesses.{denial, denied, left}
use Rattle.memory.specs.Laws.{Lawful}
use Rattle.line.specs.Line.{line_of, line_rules, line_over}

module _ (e : ℕ) (d : Description) where
  pub line_free : free d ≡ free (line_over e d)
  line_free = ap (λ n. d.rules.limit - n) (sym (length-map d.seen (line_of e)))

  pub line_counted : length (line_over e d).seen ≡ length d.seen
  line_counted = length-map d.seen (line_of e)

  pub line_denied : (k : Access) (base len off : ℕ) → denied d k base len off ≡ denied (line_over e d) k base len off
  line_denied k base len off = ap (denial (length d.cells) base len off (d.rules.cost k len)) line_free

  line_marked : (cells : List ℕ) (marks : List Mark) → line_over e (marked d cells marks) ≡ marked (line_over e d) cells (map (line_of e) marks)
  line_marked cells marks =
      let F : List Mark → Description = λ s. record { cells = cells; seen = s; rules = line_rules e d.rules } in
      ap F (map-append (line_of e) d.seen marks)

  line_left : (why : Option Refusal) (cells : List ℕ) (marks : List Mark) → line_over e (left why d (marked d cells marks)) ≡ left why (line_over e d) (marked (line_over e d) cells (map (line_of e) marks))
  line_left None cells marks = line_marked cells marks
  line_left (Some why) cells marks = refl

  -- what an access through the layer leaves
  pub line_after : (k : Access) (base len off : ℕ) (cells : List ℕ)
      → line_over e (left (denied d k base len off) d (marked d cells (d.rules.shows k base len off)))
      ≡ left (denied (line_over e d) k base len off) (line_over e d) (marked (line_over e d) cells ((line_over e d).rules.shows k base len off))
  line_after k base len off cells =
      line_left (denied d k base len off) cells (d.rules.shows k base len off)
      ∙ ap (λ why. left why (line_over e d) (marked (line_over e d) cells (map (line_of e) (d.rules.shows k base len off)))) (line_denied k base len off)

  pub line_lawful : Lawful d → Lawful (line_over e d)
  line_lawful laws = record {
    limited = laws.limited;
    priced = λ k base len off w. ap hold (length-map (d.rules.shows k base len off) (line_of e)) ∙ laws.priced k base len off (record { below = w.below; fits = w.fits });
    shown = λ k base len off w. laws.shown k base len off (record { below = w.below; fits = w.fits });
    alike = λ h k base len off other v w. ap (map (line_of e)) (laws.alike h k base len off other (record { below = v.below; fits = v.fits }) (record { below = w.below; fits = w.fits }));
  }
