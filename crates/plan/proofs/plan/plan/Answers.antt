use Rattle.std.proofs.Common.{◌≡◌, ℕ, ◌+◌, ◌<◌, ◌++◌, length, get_or, take, drop, vec_items, sym, ap, ◌∙◌, subst, arith, rules}
use Rattle.program.specs.declared.header.Kind.TheVariants.{Source}
use Rattle.labels.specs.Kinds.{secrecy}
use Rattle.labels.specs.Rules.{Smallest}
use Rattle.labels.specs.Sets.{bits, sets, secret_tables}
use Rattle.labels.proofs.Passing.{rising_start}
use Rattle.plan.specs.Planned.{Passable, plan_of}
use Rattle.plan.proofs.Steps.{length_code, passable, is_plan, small_front}
use Rattle.plan.proofs.plan.plan.Goals as goal

pub settle-requires : goal.settle-requires
settle-requires c =
    let m = c.args.program.now in
    let h = c.header-header.result in
    let kind : c.args.program.now.header.kind ≡ Source = search rules in
    let n = ap length c.code.ensures ∙ length_code m.header.count (vec_items m.list) m.room in
    let long : length c.clear.new.list ≡ c.args.program.now.header.count + 1 = search rules in
    record {
      code = subst Passable (sym c.code.ensures) (passable m.header (vec_items m.list) kind m.few m.room m.bounds m.pairs);
      long = long ∙ ap (λ x. x + 1) (sym n);
      rising = rising_start (secret_tables h.tables) h.secret_entry c.code.result.now c.clear.new.list (c.clear.ensures.first ∙ c.at_start.ensures.value) c.clear.ensures.others;
    }

pub returns : goal.returns
returns c =
    let m = c.args.program.now in
    let h = m.header in
    let code = take h.count (vec_items m.list) in
    let kind : c.args.program.now.header.kind ≡ Source = search rules in
    let good = passable h (vec_items m.list) kind m.few m.room m.bounds m.pairs in
    let n = length_code h.count (vec_items m.list) m.room in
    let long : length c.settle.new.list ≡ c.args.program.now.header.count + 1 = search rules in
    let same = c.header-header.ensures in
    let least : Smallest secrecy (secret_tables h.tables) (bits h.secret_entry) code (sets c.settle.new.list) =
    subst (λ x. Smallest secrecy (secret_tables x.tables) (bits x.secret_entry) code (sets c.settle.new.list)) same
    (subst (λ x. Smallest secrecy (secret_tables c.header-header.result.tables) (bits c.header-header.result.secret_entry) x (sets c.settle.new.list)) c.code.ensures c.settle.ensures) in
    let small : (k : ℕ) → get_or c.settle.new.list k 0 < 65536 = small_front c.settle.new.list _ (λ k. (c.type_inv.list k).fits) in
    let e : c.settle.new.list ≡ plan_of h code = is_plan h code c.settle.new.list good m.narrow (long ∙ ap (λ x. x + 1) (sym n)) small least in
    let count : c.from-needed.result + 1 ≡ length code + 1 = omega (arith, n, c.from-needed.ensures, ap (λ x. x.count) same) in
    record {
      answer = search rules;
      list = (
        (λ t. e t ++ drop (count t) c.args.list.now),
        subst (λ l. Smallest secrecy (secret_tables h.tables) (bits h.secret_entry) code (sets l)) e least,
      );
    }
