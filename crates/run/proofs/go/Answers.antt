use Rattle.std.proofs.Common.{◌≡◌, ◌-◌, ◌<◌, length, sym, ap, ◌∙◌, arith, rules}
use Rattle.program.specs.declared.program.Program.{Program}
use Rattle.program.specs.Blocks.{Nested}
use Rattle.stack.specs.Held.{held}
use Rattle.machine.specs.declared.visit.Choice.TheVariants.{Fault}
use Rattle.machine.specs.Machine.{state_of}
use Rattle.program.specs.Programs.{code_of}
use Rattle.machine.proofs.Programs.{code_pairs}
use Rattle.counting.specs.Counting.{most_steps}
use Rattle.machine.proofs.Fitting.{fits_eight}
use Rattle.run.specs.Run.{fault_of}
use Rattle.run.proofs.Steps.{Stepped, turn_step}
use Rattle.run.proofs.Going.{nested_of, kept_more, seen_more, turn_able, turn_room, turn_ready, turn_may, turn_more, turn_fault, turn_end, outcome, not_over, is_over}
use Rattle.run.proofs.go.Given.{Over}
use Rattle.run.proofs.go.Goals.{After-step-moved}
use Rattle.run.proofs.go.Goals as goal

nest : (s : Program) → Nested (code_of s)
nest s = nested_of (code_of s) (code_pairs s)

pub step-moved-requires-clause-ready : goal.step-moved-requires-clause-ready
step-moved-requires-clause-ready g c =
    let s = c.args.program.now in
    let b = not_over s (c.from-count.ensures ∙ ap (λ h. h.count) c.header.ensures) c.turns-test.ensures.value in
    turn_ready (nest s) (g.met.M.Memory.lawful c.args.memory.now) c.requires c.turns.invariant s.eight c.new-layout.result.windows c.new-layout.ensures.windows b c.at.ensures.here (fits_eight s.header.used c.at.result s.few c.at.ensures.fits)

-- the place is before the end
before : (g : Over) (c : After-step-moved g) → c.turns.place < length (code_of c.args.program.now)
before g c = not_over c.args.program.now (c.from-count.ensures ∙ ap (λ h. h.count) c.header.ensures) c.turns-test.ensures.value

-- fewer visits than there is room for
room : (g : Over) (c : After-step-moved g) → c.turns.steps < length c.args.visits.now
room g c = turn_room (nest c.args.program.now) (g.met.M.Memory.lawful c.args.memory.now) c.requires c.turns.invariant (before g c)

-- fewer steps than the most
few : (g : Over) (c : After-step-moved g) → c.turns.steps < most_steps (code_of c.args.program.now)
few g c = (turn_able (nest c.args.program.now) (g.met.M.Memory.lawful c.args.memory.now) c.requires c.turns.invariant (before g c)).1

-- the turn that was taken is a step of the machine
stepped : (g : Over) (c : After-step-moved g)
    → Stepped c.args.program.now.header.tables (code_of c.args.program.now) c.turns.place (held c.turns.state.repeats.open) c.turns.state.registers (g.M.Memory.model c.turns.memory) c.turns.invariant.trace
    c.step-moved.result (held c.step-moved.new.self.repeats.open) c.step-moved.new.self.registers (g.M.Memory.model c.step-moved.new.memory)
stepped g c =
    let s = c.args.program.now in
    let law = g.met.M.Memory.lawful c.args.memory.now in
    let fit = fits_eight s.header.used c.at.result s.few c.at.ensures.fits in
    let ready = turn_ready (nest s) law c.requires c.turns.invariant s.eight c.new-layout.result.windows c.new-layout.ensures.windows (before g c) c.at.ensures.here fit in
    let may = turn_may (nest s) law c.requires c.turns.invariant (before g c) c.at.ensures.here in
    turn_step s.header.tables (code_of s) c.new-layout.result.windows c.new-layout.ensures.windows c.new-layout.result.jumps c.new-layout.ensures.jumps s.eight _ _ _ _ _ _ (g.met.M.Memory.lawful c.turns.memory) c.turns.invariant.wide _ _ _ _
    c.at.result c.at.ensures.here fit ready may c.step-moved.ensures

pub offset_bounds-visits-steps : goal.offset_bounds-visits-steps
offset_bounds-visits-steps g c = let b = few g (goal.at.offset_bounds-visits-steps g c).After-step-moved in omega (arith, c.requires.short)

pub bounds-visits-steps : goal.bounds-visits-steps
bounds-visits-steps g c = let b = room g (goal.at.bounds-visits-steps g c).After-step-moved in omega (arith, c.turns.auto.visits)

pub overflow_add-steps : goal.overflow_add-steps
overflow_add-steps g c = let b = few g (goal.at.overflow_add-steps g c).After-step-moved in omega (arith, c.requires.short)

pub overflow_sub-result : goal.overflow_sub-result
overflow_sub-result g c =
    let a = (goal.at.overflow_sub-result g c).After-step-moved in
    let m = seen_more (kept_more (room g a) a.turns.invariant.kept (stepped g a)) in
    omega (arith, c.marks.ensures, c.marks-before.ensures)

pub returns-then-eq : goal.returns-then-eq
returns-then-eq g c =
    let a = (goal.at.returns-then-eq g c).After-step-moved in
    let s = c.args.program.now in
    let law = g.met.M.Memory.lawful c.args.memory.now in
    let d' = g.M.Memory.model c.step-moved.new.memory in
    let t = stepped g a in
    let f : c.step-moved.result.choice ≡ Fault = search rules in
    let e = turn_fault (nest s) law c.requires c.turns.invariant f t in
    outcome (nest s) law c.requires _ (kept_more (room g a) c.turns.invariant.kept t) (ap state_of e)
    (t.long ∙ c.turns.invariant.wide) (ap (λ n. n - c.marks-before.result) c.marks.ensures ∙ ap (λ n. length d'.seen - n) c.marks-before.ensures) (sym (ap fault_of e))

pub turns-smaller : goal.turns-smaller
turns-smaller g c = let b = few g (goal.at.turns-smaller g c).After-step-moved in omega arith

pub turns-preserved : goal.turns-preserved
turns-preserved g c =
    let a = (goal.at.turns-preserved g c).After-step-moved in
    let f : c.step-moved.result.choice ≡ Fault → ⊥ = search rules in
    turn_more (nest c.args.program.now) (g.met.M.Memory.lawful c.args.memory.now) c.requires c.turns.invariant (before g a) f (stepped g a)

pub returns : goal.returns
returns g c =
    let s = c.args.program.now in
    let law = g.met.M.Memory.lawful c.args.memory.now in
    let d = g.M.Memory.model c.turns.memory in
    let e = turn_end (nest s) law c.requires c.turns.invariant (is_over s (c.from-count.ensures ∙ ap (λ h. h.count) c.header.ensures) c.turns-test.ensures.value) in
    outcome (nest s) law c.requires _ c.turns.invariant.kept (ap state_of e)
    c.turns.invariant.wide (ap (λ n. n - c.marks-before.result) c.marks-2.ensures ∙ ap (λ n. length d.seen - n) c.marks-before.ensures) (sym (ap fault_of e))
