use Rattle.std.proofs.Common.{◌≡◌, [], map, length, get_or, sym, ◌∙◌, arith, rules}
use Rattle.std.proofs.lemmas.List.{ext_get_or, get_or-map, length-map}
use Rattle.program.specs.Headers.{no_table}
use Rattle.header.specs.Layout.{entry_bytes}
use Rattle.header.proofs.encode.entries.Goals as goal

pub returns : goal.returns
returns c =
    let ts = c.args.tables.now in
    let made = c.map.ensures.items in
    let eight : length ts ≡ 8 = c.told-tables in
    ext_get_or [] c.map.result (map entry_bytes ts) (made.long ∙ sym (length-map ts entry_bytes ∙ eight))
    (λ i l.
    let call = made.at i no_table [] (omega (arith, made.long)) in
    let entry : get_or c.map.result i [] ≡ entry_bytes (get_or ts i no_table) = search rules in
    entry ∙ sym (get_or-map entry_bytes ts i no_table [] (omega (arith, made.long))))
