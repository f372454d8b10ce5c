use Rattle.std.proofs.Common.{◌≡◌, true, false, leb, get_or, sym, ap, ◌∙◌, arith}
use Rattle.std.specs.Bool.{then_some}
use Rattle.std.proofs.lemmas.Bool.{cond-false, lt-leb, le-leb}
use Rattle.std.proofs.lemmas.Bool.Decides.{nat_tests}
use Rattle.program.specs.Headers.{kind_of, longest, cells_of}
use Rattle.program.specs.Firsts.{all_below}
use Rattle.header.specs.Layout.{header_good, header_at, tables_at, entry_good, pair_at}
use Rattle.header.proofs.Numbers.{kind_none, kind_some}
use Rattle.header.proofs.Choosing.{cond_none, cond_some, then_chosen}
use Rattle.header.proofs.decode.header.Goals as goal
use Rattle.header.proofs.decode.header.Goals.{then-header-longest-via-then-header-longest, then-header-longest-via-else-header-longest+then-cells-gt-MOST_CELLS}

pub returns-in_default : goal.returns-in_default
unfolding header_good
returns-in_default c =
    let no : header_good c.args.bytes.now ≡ false = grind (arith, nat_tests) in
    sym (cond-false (header_good c.args.bytes.now) _ _ no)

pub returns-in_default-2 : goal.returns-in_default-2
unfolding header_good
returns-in_default-2 c =
    let no : header_good c.args.bytes.now ≡ false = grind (arith, nat_tests) in
    sym (cond-false (header_good c.args.bytes.now) _ _ no)

pub returns-then-used-gt-MOST_TABLES : goal.returns-then-used-gt-MOST_TABLES
unfolding header_good
returns-then-used-gt-MOST_TABLES c =
    let no : header_good c.args.bytes.now ≡ false = grind (arith, nat_tests) in
    sym (cond-false (header_good c.args.bytes.now) _ _ no)

pub returns-in_err-ok : goal.returns-in_err-ok
unfolding header_good
returns-in_err-ok c =
    let bs = c.args.bytes.now in
    let kind : leb (get_or bs 3 0) 1 ≡ false = kind_none _ _ c.try_from.ensures c.in_err-ok.ensures.value in
    let no : header_good bs ≡ false = grind (arith, nat_tests) in
    c.from_residual.ensures ∙ sym (cond-false (header_good bs) _ _ no)

pub returns-in_err-tables : goal.returns-in_err-tables
unfolding header_good
returns-in_err-tables c =
    let bs = c.args.bytes.now in
    let tables : all_below (entry_good bs (get_or bs 2 0)) 8 ≡ false = cond_none _ _ c.in_err-tables.ensures in
    let no : header_good bs ≡ false = grind (arith, nat_tests) in
    c.from_residual-in_err-tables.ensures ∙ sym (cond-false (header_good bs) _ _ no)

pub returns-then-header-longest : goal.returns-then-header-longest
unfolding header_good
returns-then-header-longest c =
    let bs = c.args.bytes.now in
    let of_kind = kind_some (get_or bs 3 0) _ _ c.try_from.ensures c.in_ok-ok.ensures.value in
    let of_tables = cond_some (all_below (entry_good bs (get_or bs 2 0)) 8) (tables_at bs) c.in_ok-tables.field-0 c.in_ok-tables.ensures in
    let most : c.longest.result ≡ longest (kind_of (get_or bs 3 0)) = c.longest.ensures ∙ ap longest of_kind.0 in
    let no : header_good bs ≡ false =
    elim c.then-header-longest.branch [
      | then-header-longest-via-then-header-longest w ↦
          let many : leb (pair_at bs 4) (longest (kind_of (get_or bs 3 0))) ≡ false = lt-leb _ _ (omega arith) in
          grind (arith, nat_tests)
      | then-header-longest-via-else-header-longest+then-cells-gt-MOST_CELLS w ↦
          let cells : w.cells.result ≡ cells_of (tables_at bs) = w.cells.ensures ∙ ap cells_of of_tables.1 in
          let many : leb (cells_of (tables_at bs)) 4096 ≡ false = lt-leb _ _ (omega arith) in
          grind (arith, nat_tests)
    ] in
    sym (cond-false (header_good bs) _ _ no)

pub returns : goal.returns
unfolding header_good header_at
returns c =
    let bs = c.args.bytes.now in
    let of_kind = kind_some (get_or bs 3 0) _ _ c.try_from.ensures c.in_ok-ok.ensures.value in
    let of_tables = cond_some (all_below (entry_good bs (get_or bs 2 0)) 8) (tables_at bs) c.in_ok-tables.field-0 c.in_ok-tables.ensures in
    let most : c.longest.result ≡ longest (kind_of (get_or bs 3 0)) = c.longest.ensures ∙ ap longest of_kind.0 in
    let cells : c.cells.result ≡ cells_of (tables_at bs) = c.cells.ensures ∙ ap cells_of of_tables.1 in
    let few : leb (pair_at bs 4) (longest (kind_of (get_or bs 3 0))) ≡ true = le-leb _ _ (omega arith) in
    let small : leb (cells_of (tables_at bs)) 4096 ≡ true = le-leb _ _ (omega arith) in
    let rest : c.rest_is_zero.result ≡ header_good bs = grind (arith, nat_tests) in
    c.then_some.ensures
    ∙ (λ t. then_some (rest t) (record { kind = of_kind.0 t; tables = of_tables.1 t; used = get_or bs 2 0; count = c.from_le_bytes.ensures t; secret_entry = c.from_le_bytes-2.ensures t }))
    ∙ then_chosen (header_good bs) (header_at bs)
