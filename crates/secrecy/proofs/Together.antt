-- Where no table is hidden, two runs that agree on what is public come to the end together, or to one fault.
use Rattle.std.proofs.Common.{ℕ, Bool, List, [], ◌∷◌, length, sym, refl, subst₂, inl, inr}
use Rattle.std.proofs.lemmas.Bool.{false≢true}
use Rattle.program.specs.declared.header.Table.{Table}
use Rattle.machine.specs.declared.repeat.OpenRepeat.{OpenRepeat}
use Rattle.machine.specs.Machine.{Out, fine, fault, land}
use Rattle.machine.specs.Nested.{exec}
use Rattle.secrecy.specs.Alike.{Alike}
use Rattle.secrecy.specs.Together.{bare, BareSame, Together, RunsTogether, WholeRunsTogether}
use Rattle.secrecy.proofs.Meeting.{Hiding, Meets}
use Rattle.secrecy.proofs.Alike.{exec_agrees}
use Rattle.secrecy.proofs.Seen.{seen_same}
use Rattle.secrecy.proofs.Whole.{comes}

pub bare_same : BareSame
bare_same tables t u h =
    seen_same tables bare (λ s. s) ◌∷◌ t u (record { each = λ e s. refl; reading = λ p b i j x k. absurd (false≢true k); writing = λ p b i j x k. absurd (false≢true k) }) h

module _ (tables : List Table) (secret B : ℕ → Bool) where
  never : Hiding tables secret bare → ⊥
  never h = false≢true h.1

  together : (o u : Out) (q : ℕ) (fs : List OpenRepeat) → Meets tables secret bare (Alike tables secret bare B) o u → Together tables secret B (land o q fs) (land u q fs)
  together (fine x) (fine y) q fs h = (refl, refl, h)
  together (fine x) (fault r y) q fs h = absurd (never h)
  together (fault p x) (fine y) q fs h = absurd (never h)
  together (fault p x) (fault r y) q fs (inl h) = h
  together (fault p x) (fault r y) q fs (inr h) = absurd (never h)

pub runs_together : {Note : Type 0} → RunsTogether Note
runs_together tables secret b A B p q fs x y c h = together tables secret B (exec tables b p x) (exec tables b p y) q fs (exec_agrees tables secret bare b A B p c x y h)

pub whole_runs_together : {Note : Type 0} → WholeRunsTogether Note
whole_runs_together tables secret code b A B x y f d m c h =
    subst₂ (Together tables secret B) (sym (comes tables code b x f d m)) (sym (comes tables code b y f d m))
    (runs_together tables secret b A B 0 (length code) [] x y c h)
