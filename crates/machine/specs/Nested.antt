-- The same run, read off the nested blocks of a program.
use Rattle.std.specs.Prelude.{ℕ, zero, suc, min, List}
use Rattle.program.specs.declared.header.Table.{Table}
use Rattle.program.specs.Blocks.{Block, done, one, if_then, if_else, loop, fin}
use Rattle.machine.specs.declared.visit.Choice.TheVariants.{Onward, Inward, Past}
use Rattle.machine.specs.States.{State, visited}
use Rattle.machine.specs.Machine.{Out, fine, fault, does}

-- one thing and then another, unless there was a fault
abbrev pub and_then : Out → (State → Out) → Out
and_then (fine s) k = k s
and_then (fault p s) k = fault p s

-- a body f, then its again at place q, and so often more
abbrev pub rounds : (State → Out) → ℕ → ℕ → State → Out
rounds f q zero s = and_then (f s) (λ z. fine (visited q Past z))
rounds f q (suc m) s = and_then (f s) (λ z. rounds f q m (visited q Inward z))

-- a repeat at p with its again at q, and so many rounds
abbrev pub repeats : (State → Out) → ℕ → ℕ → ℕ → State → Out
repeats f p q zero s = fine (visited p Past s)
repeats f p q (suc m) s = rounds f q m (visited p Inward s)

-- an if at p, by its register's word
abbrev pub either : ℕ → ℕ → (State → Out) → (State → Out) → State → Out
either zero p f g s = g (visited p Past s)
either (suc n) p f g s = f (visited p Inward s)

module _ {Note : Type 0} (tables : List Table) where
  -- a block that begins at p
  abbrev pub exec : Block Note → ℕ → State → Out
  exec done p s = fine s
  exec (one op b) p s = and_then (does tables p op s) (exec b (suc p))
  exec (if_then n a t b) p s =
      and_then (either (s.registers a) p (exec t (suc p)) fine s)
      (λ z. exec b (suc (fin t (suc p))) (visited (fin t (suc p)) Onward z))
  exec (if_else n a t e b) p s =
      and_then
      (either (s.registers a) p (λ y. and_then (exec t (suc p) y) (λ z. fine (visited (fin t (suc p)) Onward z))) (exec e (suc (fin t (suc p)))) s)
      (λ z. exec b (suc (fin e (suc (fin t (suc p))))) (visited (fin e (suc (fin t (suc p)))) Onward z))
  exec (loop a k t b) p s =
      and_then (repeats (exec t (suc p)) p (fin t (suc p)) (min (s.registers a) k) s) (exec b (suc (fin t (suc p))))
