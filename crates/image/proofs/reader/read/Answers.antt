use Rattle.std.proofs.Common.{◌≡◌, ◌++◌, length, take, drop, vec_items, sym, refl, ap, ◌∙◌, subst, arith}
use Rattle.program.specs.Blocks.{Nested}
use Rattle.header.proofs.Rewritten.{Bytes}
use Rattle.image.specs.Images.{read_refusal, instructions, image_of}
use Rattle.image.proofs.Answering.{not_nested, image_passed}
use Rattle.image.proofs.Accepting.{sound_header, sound_list, rewritten, nested, list_is}
use Rattle.image.proofs.Chunked.{code_many, code_read}
use Rattle.image.proofs.reader.read.Goals as goal
use Rattle.image.proofs.reader.read.Goals.{After-fill}

-- what the list holds after the loop
filled : (c : After-fill) → vec_items c.fill.new.list ≡ instructions (drop 64 c.args.image.now) c.in-Ok.header.count ++ drop c.in-Ok.header.count (vec_items c.args.list)
filled c =
    let code = code_read c.args.image.now c.in-Ok.header c.code_in.result.now c.in-Ok.ensures.value.1 c.code_in.ensures.chunks c.code_in.ensures.count in
    let many = code_many c.args.image.now c.in-Ok.header c.code_in.result.now c.in-Ok.ensures.value.1 c.code_in.ensures.chunks c.code_in.ensures.count in
    c.fill.ensures ∙ (λ t. code t ++ drop (many t) (vec_items c.args.list))

-- the image is a list of bytes
bytes : (c : After-fill) → Bytes c.args.image.now
bytes c k = let fits = c.type_inv.image k in omega arith

pub fill-requires : goal.fill-requires
fill-requires c =
    let long = c.args.list.ok.0 in
    let many = code_many c.args.image.now c.in-Ok.header c.code_in.result.now c.in-Ok.ensures.value.1 c.code_in.ensures.chunks c.code_in.ensures.count in
    omega (arith, many, c.in-Ok.ensures.value.2)

pub returns-in-Err : goal.returns-in-Err
returns-in-Err c =
    let bs = c.args.image.now in
    let long = c.args.list.ok.0 in
    let room : c.len.result ≡ length (vec_items c.args.list) = omega arith in
    let e = c.in-Err.ensures.refusal ∙ ap (read_refusal bs) room in
    record {
      answer = record { refusal = sym e; list = refl };
      rewritten = tt;
      nested = not_nested bs _ c.in-Err.refusal e;
    }

pub new-requires : goal.new-requires
new-requires c =
    let bs = c.args.image.now in
    let h = c.in-Ok.header in
    let is = c.in-Ok.ensures.value.0 in
    let none = image_passed bs c.len.result c.in-Ok.ensures.refusal in
    let long = c.args.list.ok.0 in
    record {
      header = sound_header bs h is none (bytes c);
      list = sound_list bs h is none (vec_items c.args.list) (vec_items c.fill.new.list) (filled c) (omega (arith, c.in-Ok.ensures.value.2));
    }

pub returns-in-Ok : goal.returns-in-Ok
returns-in-Ok c =
    let bs = c.args.image.now in
    let h = c.in-Ok.header in
    let is = c.in-Ok.ensures.value.0 in
    let none = image_passed bs c.len.result c.in-Ok.ensures.refusal in
    let before = vec_items c.args.list in
    let after = vec_items c.fill.new.list in
    let full = filled (goal.at.returns-in-Ok c).After-fill in
    let long = c.args.list.ok.0 in
    let room : c.len.result ≡ length before = omega arith in
    let header = c.new.ensures.header in
    let list = ap vec_items c.new.ensures.list in
    record {
      answer = record { refusal = sym (c.in-Ok.ensures.refusal ∙ ap (read_refusal bs) room); header = header ∙ is; list = list ∙ list_is bs h is none before after full };
      rewritten = (λ t. image_of (header t) (take (header t).count (list t))) ∙ rewritten bs h is none before after full (bytes (goal.at.returns-in-Ok c).After-fill) c.in-Ok.ensures.value.1;
      nested = subst Nested (sym (λ t. take (header t).count (list t))) (nested bs h is none before after full);
    }
