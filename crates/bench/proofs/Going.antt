-- What a go refuses and leaves, by what its run does.
use Rattle.std.proofs.Common.{◌≡◌, ℕ, ◌≤◌, Bool, true, false, ltb, leb, cond, List, [], ◌∷◌, length, Some, None, Option, refl, sym, ap, ◌∙◌, subst, arith}
use Rattle.std.proofs.lemmas.Bool.{le-leb}
use Rattle.instructions.specs.declared.Instruction.{Instruction}
use Rattle.program.specs.declared.header.Table.{Table}
use Rattle.program.specs.declared.refusal.Reason.{Reason}
use Rattle.program.specs.declared.refusal.Reason.TheVariants.{TooManySteps, MemoryTooSmall, NoRoomForVisits, NoFreeMarks}
use Rattle.program.specs.Headers.{cells_of}
use Rattle.program.specs.Refusals.{refusal as refusal_at, unless, or_else}
use Rattle.memory.specs.Description.{Description, free, marked}
use Rattle.machine.specs.States.{held}
use Rattle.machine.specs.Machine.{Conf, state_of}
use Rattle.machine.specs.declared.visit.Visit.{Visit}
use Rattle.counting.specs.Counting.{most_steps, most_marks}
use Rattle.run.specs.declared.Outcome.{Outcome}
use Rattle.run.specs.Run.{refusal, marks_of, Ended}
use Rattle.memory.specs.Accesses.{left}
use Rattle.calls.specs.declared.Call.TheVariants.{Go}
use Rattle.calls.specs.declared.Ending.{Ending}
use Rattle.calls.specs.Benches.{Seated, or_blank, bench, words, comes, ending_of}
use Rattle.calls.specs.Calls.{first_of, ◌⇒◌, leaves, after}
use Rattle.calls.proofs.Words.{words_all}

-- one test, either way round
turned : (n m : ℕ) (why : Reason) → unless (leb n m) why 0 ≡ cond (ltb m n) (Some (refusal_at why 0)) None
turned n m why = grind arith

both : (a b : Bool) (v w : Reason) → or_else (cond a (Some (refusal_at v 0)) None) (cond b (Some (refusal_at w 0)) None) ≡ first_of (a ⇒ v ∷ b ⇒ w ∷ [])
both true b v w = refl
both false b v w = refl

module _ (tables : List Table) (code : List Instruction) (d : Description) where
  -- two of the refusals of a run cannot come
  pub go_refusal : (room : ℕ) → most_steps code ≤ 1000000 → cells_of tables ≤ length d.cells
      → refusal tables code d room ≡ first_of (ltb room (most_steps code) ⇒ NoRoomForVisits ∷ ltb (free d) (most_marks d.rules.cost tables code) ⇒ NoFreeMarks ∷ [])
  go_refusal room short fits =
      (λ t. or_else (unless (le-leb (most_steps code) 1000000 short t) TooManySteps 0)
      (or_else (unless (le-leb (cells_of tables) (length d.cells) fits t) MemoryTooSmall 0)
      (or_else (turned (most_steps code) room NoRoomForVisits t) (turned (most_marks d.rules.cost tables code) (free d) NoFreeMarks t))))
      ∙ both (ltb room (most_steps code)) (ltb (free d) (most_marks d.rules.cost tables code)) NoRoomForVisits NoFreeMarks

  -- the memory after a run
  pub memory_after : (c : Conf) (d' : Description) (vs vs' : List Visit) (o : Outcome) → Ended tables code c d d' vs vs' o
      → d' ≡ marked d (words (length d.cells) (state_of c).cells) (marks_of tables d.rules.shows (state_of c).trace)
  memory_after c d' vs vs' o e =
      let cells : d'.cells ≡ words (length d.cells) (state_of c).cells = sym (words_all d'.cells) ∙ (λ t. words (e.size t) (e.cells t)) in
      λ t. record { cells = cells t; seen = e.seen t; rules = e.rules t }

-- the bench after a go that was accepted
pub go_after : (s : Seated) (o : Option Seated) (entry : List ℕ) (last : Option Ending) (d d' : Description) (vs vs' : List Visit) (r : Outcome) (e : Ending)
    → o ≡ Some s → most_steps (or_blank o).code ≤ 1000000 → cells_of (or_blank o).header.tables ≤ length d.cells
    → refusal s.header.tables s.code d (length vs) ≡ None → Ended s.header.tables s.code (comes s entry d.cells) d d' vs vs' r → e ≡ ending_of (held r.registers) (held r.registers 24)
    → bench d' o entry (Some e) ≡ after (Go (length vs)) (bench d o entry last)
go_after s o entry last d d' vs vs' r e is short fits accepted ended left_behind =
    let b = bench d (Some s) entry last in
    let new = leaves (Go (length vs)) b in
    let memory = memory_after s.header.tables s.code d (comes s entry d.cells) d' vs vs' r ended in
    let steps : most_steps s.code ≤ 1000000 = subst (λ x. most_steps (or_blank x).code ≤ 1000000) is short in
    let cells : cells_of s.header.tables ≤ length d.cells = subst (λ x. cells_of (or_blank x).header.tables ≤ length d.cells) is fits in
    let none = sym accepted ∙ go_refusal s.header.tables s.code d (length vs) steps cells in
    let here : bench d' (Some s) entry (Some e) ≡ new = λ t. bench (memory t) (Some s) entry (Some ((left_behind ∙ ap (λ f. ending_of f (f 24)) ended.registers) t)) in
    let whole : bench d' (Some s) entry (Some e) ≡ after (Go (length vs)) b = here ∙ ap (λ x. left x b new) none in
    subst (λ x. bench d' x entry (Some e) ≡ after (Go (length vs)) (bench d x entry last)) (sym is) whole
