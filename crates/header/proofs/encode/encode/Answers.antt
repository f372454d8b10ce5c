use Rattle.std.proofs.Common.{ap, ◌∙◌}
use Rattle.std.specs.List.{flat_map}
use Rattle.std.proofs.lemmas.List.Folds.{flat_map-map}
use Rattle.header.specs.Layout.{entry_bytes}
use Rattle.header.proofs.Written.{header_written}
use Rattle.header.proofs.encode.encode.Goals as goal

pub returns : goal.returns
returns c =
    let h = c.args.header.now in
    let start = c.copy_from_slice.ensures.after ∙ c.start.ensures in
    let entries = c.copy_from_slice-2.ensures.after ∙ c.as_flattened.ensures.value ∙ ap (flat_map (λ x. x)) c.entries.ensures ∙ flat_map-map (λ x. x) entry_bytes h.tables in
    header_written h c.copy_from_slice.new.self c.copy_from_slice-2.new.self start entries
