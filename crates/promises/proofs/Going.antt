-- An accepted go keeps two benches agreeing.
use Rattle.std.proofs.Common.{◌≡◌, ℕ, ◌+◌, ◌<◌, ◌≤◌, false, ltb, List, [], ◌∷◌, ◌++◌, length, Some, None, Option, is_none, sym, refl, ap, ◌∙◌, subst, arith, zero-add}
use Rattle.program.specs.declared.refusal.Reason.TheVariants.{NoneSeated, NoFreeMarks, NoRoomForVisits}
use Rattle.program.specs.Headers.{cells_of, first_cell}
use Rattle.memory.specs.Description.{free}
use Rattle.memory.specs.Laws.{Lawful}
use Rattle.machine.specs.States.{State, held}
use Rattle.machine.specs.Machine.{length_of}
use Rattle.secrecy.proofs.Apart.{tables_within}
use Rattle.calls.specs.declared.Call.TheVariants.{Go}
use Rattle.calls.specs.Benches.{Seated, words, ending, most_steps_of, most_marks_of, program, none_seated, gone, new_marks}
use Rattle.calls.specs.Calls.{Test, ◌⇒◌, converted, refused, counts}
use Rattle.promises.specs.Kept.{AcceptedSource, ResultRunsAlike}
use Rattle.promises.proofs.Refused.{differ, fails}
use Rattle.calls.proofs.Words.{words_length, words_held}
use Rattle.promises.proofs.Sound.{From, nothing, result, Sound}
use Rattle.promises.proofs.Agreeing.{Shared, Own, own, of, sees, sits, Agree, Next}

module _ (alike : ResultRunsAlike) (room : ℕ) where
  abbrev ended : Own → State → Own
  ended o z = own (words (length o.cells) z.cells) o.entry (Some (ending z))

  -- a cell of a table, after a go
  cell_after : (s : Seated) (o : Own) (z : State) (t i : ℕ) → cells_of s.header.tables ≤ length o.cells → i < length_of s.header.tables t
      → held (words (length o.cells) z.cells) (first_cell s.header.tables t + i) ≡ z.cells (first_cell s.header.tables t + i)
  cell_after s o z t i small hi =
      let c = first_cell s.header.tables t + i in
      let l = tables_within s.header.tables t i hi in
      words_held (length o.cells) 0 z.cells c (omega arith) ∙ ap z.cells (zero-add c)

  going_by : (a : Shared) (s : Seated) (o p : Own) → AcceptedSource a.rules.hides s → cells_of s.header.tables ≤ length o.cells → Agree (sits a (converted s)) o p → Lawful (of a o).memory
      → length o.entry ≡ 16 → length p.entry ≡ 16 → Next (Go room) (Go room) (sits a (converted s)) o p
  going_by a s o p ok small g law lo lp =
      let x = sits a (converted s) in
      let zo = gone (of x o) in
      let zp = gone (of x p) in
      let l = g.public in
      let r = alike (of a o).memory s o.entry p.entry o.cells p.cells law ok small lo lp (record { registers = l.registers; cells = l.cells }) in
      record {
        then = sees x (a.seen ++ new_marks (of x o));
        mine = ended o zo;
        other = ended p zp;
        one = refl;
        two = λ t. of (sees x (a.seen ++ sym r.marks t)) (ended p zp);
        agree = record {
          size = words_length (length o.cells) 0 zo.cells ∙ g.size ∙ sym (words_length (length p.cells) 0 zp.cells);
          lasts = refl;
          public = record {
            registers = l.registers;
            cells = λ t i e hi. cell_after s o zo t i small hi ∙ r.cells t i e hi ∙ sym (cell_after s p zp t i (omega (arith, g.size)) hi);
          };
        };
        visits = r.visits;
        reply = λ z t. counts (length (r.visits t)) (length (r.marks t));
      }

  pub going : (a : Shared) (o p : Own) (w : Option Seated) → Agree a o p → Sound w (of a o) → length p.entry ≡ 16 → refused (Go room) (of a o) ≡ None → Next (Go room) (Go room) a o p
  going a o p w g s lp h =
      let b = of a o in
      let t1 : List Test = ltb room (most_steps_of (program b)) ⇒ NoRoomForVisits ∷ ltb (free b.memory) (most_marks_of b.memory.rules (program b)) ⇒ NoFreeMarks ∷ [] in
      by refl s.from (fails (none_seated b) NoneSeated t1 h)
    where
      by : {w r : Option Seated} → a.seated ≡ r → From a.rules.hides (length o.cells) w r → is_none r ≡ false → Next (Go room) (Go room) a o p
      by e nothing k = differ k
      by e (result n ok small) k =
          let x : a ≡ sits a (converted n) = λ t. record { rules = a.rules; seen = a.seen; seated = e t } in
          subst (λ u. Next (Go room) (Go room) u o p) (sym x) (going_by a n o p ok small (subst (λ u. Agree u o p) x g) s.lawful s.low lp)
