use Rattle.std.proofs.Common.{◌≡◌, ◌+◌, ◌-◌, ◌*◌, ◌≤◌, length, Ok, sym, ap, ◌∙◌, arith}
use Rattle.std.proofs.lemmas.List.{length-take-le}
use Rattle.header.specs.Layout.{header_bytes}
use Rattle.header.proofs.Written.{length_header}
use Rattle.image.specs.Images.{image_length}
use Rattle.image.proofs.Writing.{answered, bytes_are, reread}
use Rattle.image.proofs.writer.write.Goals as goal

pub slice_bounds-copy_from_slice-end-2 : goal.slice_bounds-copy_from_slice-end-2
slice_bounds-copy_from_slice-end-2 c = sym (length-take-le 64 c.args.out.now (omega arith))

pub copy_from_slice-requires : goal.copy_from_slice-requires
copy_from_slice-requires c =
    let h = c.args.program.now.header in
    let taken = length-take-le 64 c.args.out.now (omega arith) in
    taken ∙ sym (ap length (c.encode.ensures ∙ ap header_bytes c.header-header.ensures) ∙ length_header h c.args.program.now.eight)

pub returns : goal.returns
returns c =
    let p = c.args.program.now in
    let e = c.args.out.now in
    let same = c.header-header.ensures in
    let n = ap (λ h. h.count) same in
    let length_is : 64 + 8 * c.from.result ≡ image_length p.header = omega (arith, n) in
    let room : image_length p.header ≤ length e = omega arith in
    let first = c.copy_from_slice.ensures.after ∙ c.encode.ensures ∙ ap header_bytes same in
    let size : 64 + 8 * c.from.result - 64 ≡ 8 * p.header.count = omega (arith, n) in
    let bytes = bytes_are p c.code.result.now e c.copy_from_slice.new.self c.write_code.new.out _ c.code.ensures first c.write_code.ensures size in
    record {
      answer = ap (λ m. Ok m) length_is ∙ answered p (length e) room;
      bytes = bytes;
      reread = reread p _ e _ length_is bytes;
    }
