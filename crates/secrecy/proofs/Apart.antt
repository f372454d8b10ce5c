-- Where tables lie.
use Rattle.std.proofs.Common.{ℕ, zero, suc, ◌+◌, ◌≡◌, List, [], ◌∷◌, take, refl, ap, arith}
use Rattle.std.proofs.lemmas.List.Sums.{sum_by-cons}
use Rattle.program.specs.declared.header.Table.{Table}
use Rattle.program.specs.Headers.{cells_of, first_cell}
use Rattle.secrecy.specs.Apart.{TablesWithin, TablesApart}

first_next : (x : Table) (xs : List Table) (t : ℕ) → first_cell (x ∷ xs) (suc t) ≡ x.length + first_cell xs t
first_next x xs t = sum_by-cons (λ y. y.length) x (take t xs)

cells_next : (x : Table) (xs : List Table) → cells_of (x ∷ xs) ≡ x.length + cells_of xs
cells_next x xs = sum_by-cons (λ y. y.length) x xs

pub tables_within : TablesWithin
tables_within [] zero i h = absurd (omega arith)
tables_within [] (suc t) i h = absurd (omega arith)
tables_within (x ∷ xs) zero i h = let e = cells_next x xs in omega arith
tables_within (x ∷ xs) (suc t) i h =
    let e = cells_next x xs in
    let f = first_next x xs t in
    let g = tables_within xs t i h in
    omega arith

pub tables_apart : TablesApart
tables_apart [] t u i j h k e = absurd (omega arith)
tables_apart (x ∷ xs) zero zero i j h k e = refl
tables_apart (x ∷ xs) zero (suc u) i j h k e = let f = first_next x xs u in absurd (omega arith)
tables_apart (x ∷ xs) (suc t) zero i j h k e = let f = first_next x xs t in absurd (omega arith)
tables_apart (x ∷ xs) (suc t) (suc u) i j h k e =
    let f = first_next x xs t in
    let g = first_next x xs u in
    ap suc (tables_apart xs t u i j h k (omega arith))
