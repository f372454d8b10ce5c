-- Each goal has a context of its own, so each names the lemma of its turn again.
use Rattle.std.proofs.Common.{cond, eqb, is_ok, ap, ◌∙◌}
use Rattle.full_scan.proofs.Turns.{write_turn_read, write_turn, ok_same}
use Rattle.full_scan.proofs.write_all.Goals as goal

pub unwrap-old-requires : goal.unwrap-old-requires
unwrap-old-requires g c =
    let a = c.args in
    let model = g.M.Memory.model in
    let laws = g.met.M.Memory.lawful a.below.now in
    let read = write_turn_read (model a.below.now) laws a.table.first a.table.length c.loop-at.at c.loop-at-test.true c.requires.within.fits a.off a.word c.requires.room (model c.loop-at.below) c.loop-at.invariant in
    ap is_ok (c.read.ensures.answer ∙ read.0)

pub unwrap-requires : goal.unwrap-requires
unwrap-requires g c =
    let a = c.args in
    let n = c.loop-at.at in
    let model = g.M.Memory.model in
    let d = model a.below.now in
    let laws = g.met.M.Memory.lawful a.below.now in
    let read = write_turn_read d laws a.table.first a.table.length n c.loop-at-test.true c.requires.within.fits a.off a.word c.requires.room (model c.loop-at.below) c.loop-at.invariant in
    let old = ok_same c.unwrap-old.ensures (c.read.ensures.answer ∙ read.0) in
    let new = c.chosen.ensures ∙ ap (cond (eqb n a.off) a.word) old in
    let write = write_turn d laws a.table.first a.table.length n c.loop-at-test.true c.requires.within.fits a.off a.word c.requires.room (model c.read.new.self) c.chosen.result (c.read.ensures.after ∙ read.1) new in
    ap is_ok (c.write.ensures.answer ∙ write.0)

pub loop-at-preserved : goal.loop-at-preserved
loop-at-preserved g c =
    let a = c.args in
    let n = c.loop-at.at in
    let model = g.M.Memory.model in
    let d = model a.below.now in
    let laws = g.met.M.Memory.lawful a.below.now in
    let read = write_turn_read d laws a.table.first a.table.length n c.loop-at-test.true c.requires.within.fits a.off a.word c.requires.room (model c.loop-at.below) c.loop-at.invariant in
    let old = ok_same c.unwrap-old.ensures (c.read.ensures.answer ∙ read.0) in
    let new = c.chosen.ensures ∙ ap (cond (eqb n a.off) a.word) old in
    let write = write_turn d laws a.table.first a.table.length n c.loop-at-test.true c.requires.within.fits a.off a.word c.requires.room (model c.read.new.self) c.chosen.result (c.read.ensures.after ∙ read.1) new in
    c.write.ensures.after ∙ write.1
