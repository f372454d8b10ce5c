use Rattle.std.proofs.Common.{length, refl}
use Rattle.trials.proofs.Writing.{written_answer}
use Rattle.trials.proofs.room.write_over.Goals as goal

pub returns : goal.returns
returns c is =
    let before = c.args.out.now in
    written_answer c.args.program.now c.args.image.now (length before) is before _ c.write-answer.result c.judge.result refl c.requires c.write-answer.ensures.answer c.write-answer.ensures.bytes c.judge.ensures
