use Rattle.std.proofs.Common.{◌/◌, length, ap, ◌∙◌}
use Rattle.std.specs.Simd.{first_chunks}
use Rattle.std.proofs.lemmas.List.{take_rest}
use Rattle.image.proofs.reader.code_in.Goals as goal

pub returns : goal.returns
returns c =
    let whole = take_rest c.args.image.now 64 in
    record { chunks = c.as_chunks.ensures.front ∙ ap (λ s. first_chunks 8 (length s / 8) s) whole; count = c.as_chunks.ensures.front_len ∙ ap (λ s. length s / 8) whole }
