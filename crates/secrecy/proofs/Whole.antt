-- Whole runs come to what their blocks come to, so what is said of blocks is true of them.
use Rattle.std.proofs.Common.{◌≡◌, ℕ, ◌≤◌, List, [], length, sym, refl, ap, ◌∙◌, subst, arith}
use Rattle.instructions.specs.declared.Instruction.{Instruction}
use Rattle.program.specs.declared.header.Table.{Table}
use Rattle.program.specs.Blocks.{Block, done, flat, depth, fin}
use Rattle.machine.specs.States.{State}
use Rattle.machine.specs.Machine.{Out, fine, fault, Conf, go, stop, land, steps}
use Rattle.machine.specs.Nested.{exec}
use Rattle.machine.specs.Most.{each_step}
use Rattle.execution.proofs.Whole.{whole}
use Rattle.counting.specs.Counting.{most_steps}
use Rattle.counting.proofs.Sums.{sums_is}
use Rattle.conversion.specs.Trees.{converted}
use Rattle.secrecy.specs.Converted.{wide}
use Rattle.secrecy.specs.Whole.{EndsIn, WholeRunsAlike, ConvertedRunsAlike}
use Rattle.secrecy.proofs.Alike.{runs_alike}
use Rattle.secrecy.proofs.Converted.{converted_carries}

abbrev end_of : Conf → Out
end_of (go p fs s) = fine s
end_of (stop p s) = fault p s

end_land : (o : Out) (p : ℕ) → end_of (land o p []) ≡ o
end_land (fine s) p = refl
end_land (fault q s) p = refl

-- a whole run of the code, by its most steps, is the run of its blocks
pub comes : {Note : Type 0} (tables : List Table) (code : List Instruction) (b : Block Note) (x : State)
    → flat b [] ≡ code → depth b ≤ 8 → most_steps code ≤ 1000000 → steps tables code (most_steps code) (go 0 [] x) ≡ land (exec tables b 0 x) (length code) []
comes tables code b x f d m =
    let s = sums_is each_step b code f in
    let w = whole tables b x d in
    let few = w.few in
    subst (λ c. steps tables c (most_steps code) (go 0 [] x) ≡ land (exec tables b 0 x) (length c) []) f (w.comes (most_steps code) (omega arith))

-- where it ends, the blocks end
ends : {Note : Type 0} (tables : List Table) (code : List Instruction) (b : Block Note) (x z : State)
    → flat b [] ≡ code → depth b ≤ 8 → most_steps code ≤ 1000000 → EndsIn tables code x z → exec tables b 0 x ≡ fine z
ends tables code b x z f d m e = sym (end_land (exec tables b 0 x) (length code)) ∙ ap end_of (sym (comes tables code b x f d m) ∙ e)

pub whole_runs_alike : {Note : Type 0} → WholeRunsAlike Note
whole_runs_alike tables secret hidden code b A B x y z w f d m c h e g =
    runs_alike tables secret hidden b A B 0 x y z w c h (ends tables code b x z f d m e) (ends tables code b y w f d m g)

pub converted_runs_alike : ConvertedRunsAlike
converted_runs_alike tables secret hidden S long used b code x y z w fit l f d m h e g =
    whole_runs_alike tables secret hidden code (converted long 0 b 0 done) (wide (S 0)) (wide (S (fin b 0))) x y z w f d m
    (converted_carries secret hidden S long used b fit l) h e g
