-- A bench beside the plain bench.
use Rattle.std.proofs.Common.{◌≡◌, ℕ, suc, ◌+◌, Bool, false, ltb, List, [], ◌∷◌, length, set, Some, None, Option, is_none, sym, refl, ap, subst, arith}
use Rattle.program.specs.declared.refusal.Reason.TheVariants.{NoneSeated, NoRoomForVisits, NoFreeMarks, NoOutcome}
use Rattle.program.specs.Headers.{first_cell}
use Rattle.memory.specs.Description.{Description, free}
use Rattle.memory.specs.Accesses.{left}
use Rattle.machine.specs.States.{State, held}
use Rattle.machine.specs.Machine.{Conf, go, stop}
use Rattle.simulation.specs.Results.{FollowsRun}
use Rattle.calls.specs.declared.Call.{Call}
use Rattle.calls.specs.declared.Call.TheVariants.{Seat, Put, Arg, Go, Look, Open, Outcome, Clear}
use Rattle.calls.specs.declared.Answer.TheVariants.{Word, Ended}
use Rattle.calls.specs.declared.Ending.{Ending}
use Rattle.calls.specs.Bytes.{OfBytes}
use Rattle.calls.specs.Benches.{Seated, Bench, bench, or_blank, words, comes, ending, most_steps_of, most_marks_of, program, none_seated}
use Rattle.calls.specs.Calls.{Test, ◌⇒◌, refused, leaves, replies, told, after_all}
use Rattle.promises.specs.Plain.{Plain, plain, after_go, takes, Says}
use Rattle.promises.specs.Logs.{log}
use Rattle.promises.specs.Promises.{PlainAgrees}
use Rattle.promises.specs.Kept.{ImagesAccepted, result_run, RunsFollow}
use Rattle.promises.proofs.Logged.{logged}
use Rattle.promises.proofs.Refused.{differ, fails}
use Rattle.calls.proofs.Words.{words_same}
use Rattle.promises.proofs.Sound.{From, nothing, result, Sound, source_after, by_refusal}

-- the plain bench with this source beside a bench
abbrev pub plain_of : Option Seated → Bench → Plain
plain_of o b = plain o b.entry b.memory.cells b.last

after_go_is : (p : Plain) (c : Conf) (z : State) → FollowsRun c z → after_go p c z ≡ plain p.source p.entry (words (length p.cells) z.cells) (Some (ending z))
after_go_is p (go q fs x) z (registers, flag, cells) =
    let ec : words (length p.cells) x.cells ≡ words (length p.cells) z.cells = ap (words (length p.cells)) (sym cells) in
    let er : words 16 x.registers ≡ words 16 z.registers = words_same 16 0 x.registers z.registers (λ r h. sym (registers r (omega arith))) in
    let ef : 0 ≡ z.registers 24 = sym flag in
    λ t. plain p.source p.entry (ec t) (Some (record { registers = er t; fault = ef t }))
after_go_is p (stop q x) z flag =
    let ef : suc q ≡ z.registers 24 = omega (arith, flag) in
    λ t. plain p.source p.entry (words (length p.cells) z.cells) (Some (record { registers = words 16 z.registers; fault = ef t }))

same_cell : (hides : Bool) (size : ℕ) {o r : Option Seated} (t i : ℕ) → From hides size o r → first_cell (or_blank r).header.tables t + i ≡ first_cell (or_blank o).header.tables t + i
same_cell hides size t i nothing = refl
same_cell hides size t i (result s ok small) = refl

told_last : (last : Option Ending) → is_none last ≡ false → (e : Ending) × (last ≡ Some e) × (told last ≡ Ended e)
told_last None h = differ h
told_last (Some e) h = (e, refl, refl)

says : (c : Call) (o : Option Seated) (b : Bench) → Sound o b → refused c b ≡ None → Says (plain_of o b) c (replies c b)
says (Seat image) o b s h = tt
says (Put t i w) o b s h = tt
says (Arg r w) o b s h = tt
says (Go room) o b s h = tt
says (Look t i) o b s h = ap (λ c. Word (held b.memory.cells c)) (same_cell _ _ t i s.from)
says (Open t i) o b s h = ap (λ c. Word (held b.memory.cells c)) (same_cell _ _ t i s.from)
says Outcome o b s h = told_last b.last (fails (is_none b.last) NoOutcome [] h)
says Clear o b s h = tt

module _ (images : ImagesAccepted) (follow : RunsFollow) where
  go_plain : (room : ℕ) (d : Description) {o r : Option Seated} (entry : List ℕ) (last : Option Ending) → length entry ≡ 16 → From d.rules.hides (length d.cells) o r → is_none r ≡ false
      → takes (Go room) (plain o entry d.cells last) ≡ plain_of o (leaves (Go room) (bench d r entry last))
  go_plain room d entry last low nothing h = differ h
  go_plain room d entry last low (result s ok small) h = after_go_is (plain (Some s) entry d.cells last) (comes s entry d.cells) (result_run s entry d.cells) (follow d.rules.hides s entry d.cells ok low)

  takes_left : (c : Call) (o : Option Seated) (b : Bench) → Sound o b → refused c b ≡ None → takes c (plain_of o b) ≡ plain_of (source_after c o) (leaves c b)
  takes_left (Seat image) o b s h = refl
  takes_left (Put t i w) o b s h = ap (λ c. plain o b.entry (set b.memory.cells c w) b.last) (sym (same_cell _ _ t i s.from))
  takes_left (Arg r w) o b s h = refl
  takes_left (Go room) o b s h =
      let t1 : List Test = ltb room (most_steps_of (program b)) ⇒ NoRoomForVisits ∷ ltb (free b.memory) (most_marks_of b.memory.rules (program b)) ⇒ NoFreeMarks ∷ [] in
      go_plain room b.memory b.entry b.last s.low s.from (fails (none_seated b) NoneSeated t1 h)
  takes_left (Look t i) o b s h = refl
  takes_left (Open t i) o b s h = refl
  takes_left Outcome o b s h = refl
  takes_left Clear o b s h = refl

  pub follows : (cs : List Call) (o : Option Seated) (b : Bench) → OfBytes cs → Sound o b → PlainAgrees (plain_of o b) (log cs b) (after_all cs b).memory.cells
  follows [] o b small s = refl
  follows (c ∷ cs) o b small s =
      by_refusal images c o b (λ why. PlainAgrees (plain_of o b) (logged c b why ∷ log cs (left why b (leaves c b))) (after_all cs (left why b (leaves c b))).memory.cells) small.0 s
      (λ e. follows cs o b small.1 s)
      (λ h t. (
        says c o b s h,
        subst (λ p. PlainAgrees p (log cs (leaves c b)) (after_all cs (leaves c b)).memory.cells) (sym (takes_left c o b s h)) (follows cs (source_after c o) (leaves c b) small.1 t),
      ))
