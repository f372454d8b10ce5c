-- Each goal has a context of its own, so each names the lemma of its turn again.
use Rattle.std.proofs.Common.{◌≡◌, ◌+◌, get_or, is_ok, ap, ◌∙◌}
use Rattle.full_scan.proofs.Rewrites.{found_next}
use Rattle.full_scan.proofs.Turns.{read_turn, ok_same}
use Rattle.full_scan.proofs.read_all.Goals as goal

pub unwrap-word-requires : goal.unwrap-word-requires
unwrap-word-requires g c =
    let a = c.args in
    let model = g.M.Memory.model in
    let laws = g.met.M.Memory.lawful a.below.now in
    let turn = read_turn (model a.below.now) laws a.table.first a.table.length c.loop-at.at c.loop-at-test.true c.requires.within.fits c.requires.room (model c.loop-at.below) c.loop-at.invariant.0 in
    ap is_ok (c.read.ensures.answer ∙ turn.0)

pub loop-at-preserved : goal.loop-at-preserved
loop-at-preserved g c =
    let a = c.args in
    let n = c.loop-at.at in
    let model = g.M.Memory.model in
    let d = model a.below.now in
    let laws = g.met.M.Memory.lawful a.below.now in
    let turn = read_turn d laws a.table.first a.table.length n c.loop-at-test.true c.requires.within.fits c.requires.room (model c.loop-at.below) c.loop-at.invariant.0 in
    let word : c.unwrap-word.result ≡ get_or d.cells (a.table.first + n) 0 = ok_same c.unwrap-word.ensures (c.read.ensures.answer ∙ turn.0) in
    let here = λ (e : n ≡ a.off). word ∙ ap (λ i. get_or d.cells (a.table.first + i) 0) e in
    (c.read.ensures.after ∙ turn.1, found_next a.off n c.unwrap-word.result c.loop-at.found _ c.chosen-found.result c.loop-at.invariant.1 here c.chosen-found.ensures)
