use Rattle.std.proofs.Common.{◌≡◌, ℕ, zero, suc, List, [], ◌∷◌, ◌++◌, get_or, replicate, refl, ap, ◌∙◌}
use mathlib.Core.Path.{fun_ext}
use Rattle.machine.specs.States.{held}
use Rattle.run.proofs.started.Goals as goal

zeros_after : (l : List ℕ) (n x : ℕ) → ◌≡◌ {A = ℕ} (get_or (l ++ replicate n 0) x 0) (get_or l x 0)
zeros_after [] zero x = refl
zeros_after [] (suc n) zero = refl
zeros_after [] (suc n) (suc x) = zeros_after [] n x
zeros_after (a ∷ l) n zero = refl
zeros_after (a ∷ l) n (suc x) = zeros_after l n x

pub returns-clause-same : goal.returns-clause-same
returns-clause-same c = fun_ext (zeros_after c.copy_from_slice.new.self 16) ∙ ap held c.copy_from_slice.ensures.after
