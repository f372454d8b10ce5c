-- What a call with as much room as it wants does, and what is noted of it.
use Rattle.std.proofs.Common.{◌≡◌, ℕ, ◌≤◌, min, ltb, List, [], ◌∷◌, ◌++◌, length, take, drop, Some, None, Option, Result, refl, ap, ◌∙◌, arith}
use Rattle.std.proofs.lemmas.List.{take_at}
use Rattle.program.specs.declared.refusal.Refusal.{Refusal}
use Rattle.program.specs.declared.refusal.Reason.TheVariants.{NoneSeated, NoRoomForVisits, NoFreeMarks}
use Rattle.memory.specs.Description.{free}
use Rattle.memory.specs.Accesses.{answered, left}
use Rattle.machine.specs.declared.visit.Visit.{Visit}
use Rattle.calls.specs.declared.Call.{Call}
use Rattle.calls.specs.declared.Call.TheVariants.{Seat, Put, Arg, Go, Look, Open, Outcome, Clear}
use Rattle.calls.specs.declared.Answer.{Answer}
use Rattle.calls.specs.Benches.{Bench, program, none_seated, most_steps_of, most_marks_of, new_visits}
use Rattle.calls.specs.Calls.{first_of, ◌⇒◌, refused, leaves, replies, visits, answer, after, visited, counts}
use Rattle.bench.specs.Calling.{within}
use Rattle.player.specs.Entries.{noted, room_of, made_by, steps_in}

roomy : (room most bound : ℕ) → most ≤ bound → ltb (min room (min room bound)) most ≡ ltb room most
roomy room most bound h = grind arith

module _ (b : Bench) (short : most_steps_of (program b) ≤ 1000000) where
  go_refused : (room : ℕ) → refused (Go (min room (min room 1000000))) b ≡ refused (Go room) b
  go_refused room =
      ap (λ x. first_of (none_seated b ⇒ NoneSeated ∷ x ⇒ NoRoomForVisits ∷ ltb (free b.memory) (most_marks_of b.memory.rules (program b)) ⇒ NoFreeMarks ∷ []))
      (roomy room (most_steps_of (program b)) 1000000 short)

  pub same_answer : (c : Call) → answer (within (room_of c) c) b ≡ answer c b
  same_answer (Seat image) = refl
  same_answer (Put t i w) = refl
  same_answer (Arg r w) = refl
  same_answer (Go room) = ap (λ r. answered r (replies (Go room) b)) (go_refused room)
  same_answer (Look t i) = refl
  same_answer (Open t i) = refl
  same_answer Outcome = refl
  same_answer Clear = refl

  pub same_after : (c : Call) → after (within (room_of c) c) b ≡ after c b
  same_after (Seat image) = refl
  same_after (Put t i w) = refl
  same_after (Arg r w) = refl
  same_after (Go room) = ap (λ r. left r b (leaves (Go room) b)) (go_refused room)
  same_after (Look t i) = refl
  same_after (Open t i) = refl
  same_after Outcome = refl
  same_after Clear = refl

  pub same_visits : (c : Call) → visited (within (room_of c) c) b ≡ visited c b
  same_visits (Seat image) = refl
  same_visits (Put t i w) = refl
  same_visits (Arg r w) = refl
  same_visits (Go room) = ap (λ r. left r [] (visits (Go room) b)) (go_refused room)
  same_visits (Look t i) = refl
  same_visits (Open t i) = refl
  same_visits Outcome = refl
  same_visits Clear = refl

nothing : (r : Option Refusal) → 0 ≡ length (left {X = List Visit} r [] [])
nothing None = refl
nothing (Some why) = refl

steps_of_go : (r : Option Refusal) (vs : List Visit) (m : ℕ) → steps_in (answered r (counts (length vs) m)) ≡ length (left r [] vs)
steps_of_go None vs m = refl
steps_of_go (Some why) vs m = refl

-- a call makes as many visits as its answer tells
made_right : (c : Call) (b : Bench) → made_by c (answer c b) ≡ length (visited c b)
made_right (Seat image) b = nothing (refused (Seat image) b)
made_right (Put t i w) b = nothing (refused (Put t i w) b)
made_right (Arg r w) b = nothing (refused (Arg r w) b)
made_right (Go room) b = steps_of_go (refused (Go room) b) (new_visits b) _
made_right (Look t i) b = nothing (refused (Look t i) b)
made_right (Open t i) b = nothing (refused (Open t i) b)
made_right Outcome b = nothing (refused Outcome b)
made_right Clear b = nothing (refused Clear b)

pub entered : (c : Call) (b b' : Bench) (vs vs' last : List Visit) (a : Result Answer Refusal) (n m : ℕ)
    → most_steps_of (program b) ≤ 1000000 → length vs ≡ room_of c
    → a ≡ answer (within (length vs) c) b → b' ≡ after (within (length vs) c) b
    → vs' ≡ visited (within (length vs) c) b ++ drop (length (visited (within (length vs) c) b)) vs
    → n ≡ made_by c a → last ≡ take n vs' → m ≡ length b'.memory.seen
    → record { answer = a; visits = last; marks = m } ≡ noted c b
entered c b b' vs vs' last a n m short room ea eb ev en el em =
    let w = ap (λ k. within k c) room in
    let told : a ≡ answer c b = ea ∙ ap (λ k. answer k b) w ∙ same_answer b short c in
    let left_behind : b' ≡ after c b = eb ∙ ap (λ k. after k b) w ∙ same_after b short c in
    let made : visited (within (length vs) c) b ≡ visited c b = ap (λ k. visited k b) w ∙ same_visits b short c in
    let all : vs' ≡ visited c b ++ drop (length (visited c b)) vs = ev ∙ ap (λ l. l ++ drop (length l) vs) made in
    let many : n ≡ length (visited c b) = en ∙ ap (made_by c) told ∙ made_right c b in
    let kept : last ≡ visited c b = el ∙ (λ t. take (many t) (all t)) ∙ take_at (visited c b) (drop (length (visited c b)) vs) (length (visited c b)) refl in
    let seen : m ≡ length (after c b).memory.seen = em ∙ ap (λ (x : Bench). length x.memory.seen) left_behind in
    λ t. record { answer = told t; visits = kept t; marks = seen t }
