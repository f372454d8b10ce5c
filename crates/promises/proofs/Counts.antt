-- Counts are exact, and within what seat answered.
use Rattle.std.proofs.Common.{◌≡◌, ℕ, ◌≤◌, false, ltb, List, [], ◌∷◌, length, Some, None, Option, is_none, sym, refl, subst, arith, length-append}
use Rattle.std.proofs.lemmas.Bool.{ltb-false}
use Rattle.program.specs.declared.refusal.Reason.TheVariants.{NoneSeated, NoRoomForVisits, NoFreeMarks}
use Rattle.memory.specs.Description.{Description, Rules, free}
use Rattle.memory.specs.Accesses.{left}
use Rattle.memory.specs.Laws.{Lawful}
use Rattle.calls.specs.declared.Call.{Call}
use Rattle.calls.specs.declared.Call.TheVariants.{Seat, Put, Arg, Go, Look, Open, Outcome, Clear}
use Rattle.calls.specs.Bytes.{OfBytes}
use Rattle.calls.specs.Benches.{Seated, Bench, bench, or_blank, most_steps_of, most_marks_of, program, none_seated, new_visits, new_marks}
use Rattle.calls.specs.Calls.{Test, ◌⇒◌, converted, refused, leaves, replies}
use Rattle.promises.specs.Logs.{log}
use Rattle.promises.specs.Promises.{Most, CountedBy, CountedGo, most_after, Tallies}
use Rattle.promises.specs.Kept.{ImagesAccepted, RunsCounted}
use Rattle.promises.proofs.Refused.{differ, fails, rest}
use Rattle.promises.proofs.Logged.{logged}
use Rattle.promises.proofs.Sound.{From, nothing, result, Sound, source_after, by_refusal}

-- what the seat of this source answered
abbrev most_by : Rules → Option Seated → Option Most
most_by rules None = None
most_by rules (Some s) = Some (record { source = s; steps = most_steps_of (converted s); marks = most_marks_of rules (converted s) })

abbrev pub most : Option Seated → Bench → Option Most
most o b = most_by b.memory.rules o

module _ (images : ImagesAccepted) (counted : RunsCounted) where
  go_counted : (room : ℕ) (d : Description) {o r : Option Seated} (entry : List ℕ) (last : _) → Lawful d → length entry ≡ 16 → From d.rules.hides (length d.cells) o r → is_none r ≡ false
      → ltb (free d) (most_marks_of d.rules (or_blank r)) ≡ false
      → CountedBy (most_by d.rules o) d.seen (replies (Go room) (bench d r entry last)) (logged (Go room) (bench d r entry last) None)
  go_counted room d entry last law low nothing k h = differ k
  go_counted room d entry last law low (result s ok small) k h =
      let b = bench d (Some (converted s)) entry last in
      let few : most_marks_of d.rules (converted s) ≤ free d = ltb-false (free d) (most_marks_of d.rules (converted s)) h in
      let held = law.limited in
      let c = counted d s entry d.cells law ok small (omega arith) low in (
        length (new_visits b),
        length (new_marks b),
        refl,
        record {
          visits = refl;
          added = length-append d.seen (new_marks b);
          few_steps = c.few_steps;
          few_marks = c.few_marks;
          all_steps = c.all_steps;
          all_marks = c.all_marks;
        },
      )

  call_counted : (c : Call) (o : Option Seated) (b : Bench) → Sound o b → refused c b ≡ None → CountedGo (most o b) b.memory.seen (logged c b None) c (replies c b)
  call_counted (Seat image) o b s h = tt
  call_counted (Put t i w) o b s h = tt
  call_counted (Arg r w) o b s h = tt
  call_counted (Go room) o b s h =
      let dear = ltb (free b.memory) (most_marks_of b.memory.rules (program b)) in
      let narrow = ltb room (most_steps_of (program b)) in
      let t2 : List Test = dear ⇒ NoFreeMarks ∷ [] in
      let t1 : List Test = narrow ⇒ NoRoomForVisits ∷ t2 in
      go_counted room b.memory b.entry b.last s.lawful s.low s.from (fails (none_seated b) NoneSeated t1 h) (fails dear NoFreeMarks [] (rest narrow NoRoomForVisits t2 (rest (none_seated b) NoneSeated t1 h)))
  call_counted (Look t i) o b s h = tt
  call_counted (Open t i) o b s h = tt
  call_counted Outcome o b s h = tt
  call_counted Clear o b s h = tt

  most_left : (c : Call) (o : Option Seated) (b : Bench) → most_after c (replies c b) (most o b) ≡ most (source_after c o) (leaves c b)
  most_left (Seat image) o b = refl
  most_left (Put t i w) o b = refl
  most_left (Arg r w) o b = refl
  most_left (Go room) o b = refl
  most_left (Look t i) o b = refl
  most_left (Open t i) o b = refl
  most_left Outcome o b = refl
  most_left Clear o b = refl

  pub tallies : (cs : List Call) (o : Option Seated) (b : Bench) → OfBytes cs → Sound o b → Tallies (most o b) b.memory.seen (log cs b)
  tallies [] o b small s = tt
  tallies (c ∷ cs) o b small s =
      by_refusal images c o b (λ why. Tallies (most o b) b.memory.seen (logged c b why ∷ log cs (left why b (leaves c b)))) small.0 s
      (λ e. tallies cs o b small.1 s)
      (λ h t. (
        call_counted c o b s h,
        subst (λ m. Tallies m (leaves c b).memory.seen (log cs (leaves c b))) (sym (most_left c o b)) (tallies cs (source_after c o) (leaves c b) small.1 t),
      ))
