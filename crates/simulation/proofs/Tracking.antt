-- What it is that the predicated machine follows a part of a run, and how parts make a whole.
use Rattle.std.proofs.Common.{◌≡◌, ℕ, zero, suc, ◌+◌, ◌<◌, min, refl, sym, ◌∙◌, arith}
use Rattle.machine.specs.declared.visit.Choice.{Choice}
use Rattle.machine.specs.declared.visit.Choice.TheVariants.{Onward, Inward, Past}
use Rattle.machine.specs.States.{State, visited}
use Rattle.machine.specs.Machine.{Out, fine, fault, if_not0}
use Rattle.machine.specs.Nested.{and_then, rounds, repeats, either}
use Rattle.simulation.proofs.Straight.{Words}
use Rattle.simulation.proofs.Predicated.{mask, times}
use Rattle.simulation.proofs.Staying.{Quiet}

-- y has the words of x, 24 marks nothing, and the mask is 1
pub record Live (s : ℕ) (x : State) (y : Words) : Type 0 where
  pub low : (r : ℕ) → r < 16 → y.registers r ≡ x.registers r
  pub mark : y.registers 24 ≡ 0
  pub cells : (c : ℕ) → y.cells c ≡ x.cells c
  pub on : mask s y ≡ 1

-- or the source has a fault, and 24 marks its place
abbrev pub Tracks : ℕ → Out → Words → Type 0
Tracks s (fine x) y = Live s x y
Tracks s (fault p x) y = y.registers 24 ≡ p + 1

abbrev pub Tracking : ℕ → (State → Out) → (Words → Words) → Type 0
Tracking s F f = (x : State) (y : Words) → Live s x y → Tracks s (F x) (f y)

-- a mark stays
abbrev pub Holds : (Words → Words) → Type 0
Holds f = (z : Words) → (z.registers 24 ≡ 0 → ⊥) → (f z).registers 24 ≡ z.registers 24

pub live_visited : (s p : ℕ) (c : Choice) (x : State) (y : Words) → Live s x y → Live s (visited p c x) y
live_visited s p c x y h = record { low = h.low; mark = h.mark; cells = h.cells; on = h.on }

pub live_quiet : (s t : ℕ) (x : State) (y z : Words) → Live s x y → Quiet y z → mask t z ≡ 1 → Live t x z
live_quiet s t x y z h g e = record { low = λ r l. g.low r l ∙ h.low r l; mark = g.mark ∙ h.mark; cells = λ c. g.cells c ∙ h.cells c; on = e }

-- the rest of a run, where the source goes on or has stopped
pub tracks_on : (s : ℕ) (o : Out) (y : Words) (k : State → Out) (f : Words → Words) → Tracks s o y → Tracking s k f → Holds f → Tracks s (and_then o k) (f y)
tracks_on s (fine x) y k f h g i = g x y h
tracks_on s (fault p x) y k f h g i = i y (λ e. omega arith) ∙ h

pub tracks_lower : (s : ℕ) (o : Out) (y : Words) → Tracks (suc s) o y → mask s y ≡ 1 → Tracks s o y
tracks_lower s (fine x) y h e = record { low = h.low; mark = h.mark; cells = h.cells; on = e }
tracks_lower s (fault p x) y h e = h

-- two parts of a run, the second with what comes after the visit of a bracket
pub track_next : (s : ℕ) (F K : State → Out) (f k : Words → Words) → Tracking s F f → Tracking s K k → Holds k → Tracking s (λ x. and_then (F x) K) (λ y. k (f y))
track_next s F K f k α β i x y h = tracks_on s (F x) (f y) K k (α x y h) β i

pub track_visited : (s p : ℕ) (K : State → Out) (k : Words → Words) → Tracking s K k → Tracking s (λ z. K (visited p Onward z)) k
track_visited s p K k α x y h = α (visited p Onward x) y (live_visited s p Onward x y h)

pub track_end : (s p : ℕ) (c : Choice) → Tracking s (λ z. fine (visited p c z)) (λ z. z)
track_end s p c x y h = live_visited s p c x y h

either_tracks : (s n p : ℕ) (F G : State → Out) (f g : Words → Words) → Tracking s F f → Tracking s G g → Tracking s (either n p F G) (λ z. if_not0 n (f z) (g z))
either_tracks s zero p F G f g α β x y h = β (visited p Past x) y (live_visited s p Past x y h)
either_tracks s (suc n) p F G f g α β x y h = α (visited p Inward x) y (live_visited s p Inward x y h)

pub track_either : (s a p : ℕ) (F G : State → Out) (f g : Words → Words) → a < 16 → Tracking s F f → Tracking s G g
    → Tracking s (λ x. either (x.registers a) p F G x) (λ z. if_not0 (z.registers a) (f z) (g z))
track_either s a p F G f g l α β x y h = rw (h.low a l) (either_tracks s (x.registers a) p F G f g α β x y h)

times_hold : (m : ℕ) (f : Words → Words) → Holds f → Holds (times m f)
times_hold zero f α z n = refl
times_hold (suc m) f α z n = let e = α z n in times_hold m f α (f z) (λ k. n (sym e ∙ k)) ∙ e

track_rounds : (s m p : ℕ) (F : State → Out) (f : Words → Words) → Tracking s F f → Holds f → Tracking s (rounds F p m) (times (suc m) f)
track_rounds s zero p F f α β = track_next s F (λ z. fine (visited p Past z)) f (λ z. z) α (track_end s p Past) (λ z n. refl)
track_rounds s (suc m) p F f α β =
    track_next s F (λ z. rounds F p m (visited p Inward z)) f (times (suc m) f) α
    (λ a b g. track_rounds s m p F f α β (visited p Inward a) b (live_visited s p Inward a b g)) (times_hold (suc m) f β)

repeats_track : (s m p q : ℕ) (F : State → Out) (f : Words → Words) → Tracking s F f → Holds f → Tracking s (repeats F p q m) (times m f)
repeats_track s zero p q F f α β x y h = live_visited s p Past x y h
repeats_track s (suc m) p q F f α β x y h = track_rounds s m q F f α β (visited p Inward x) y (live_visited s p Inward x y h)

pub track_repeats : (s a n p q : ℕ) (F : State → Out) (f : Words → Words) → a < 16 → Tracking s F f → Holds f
    → Tracking s (λ x. repeats F p q (min (x.registers a) n) x) (λ z. times (min (z.registers a) n) f z)
track_repeats s a n p q F f l α β x y h = rw (h.low a l) (repeats_track s (min (x.registers a) n) p q F f α β x y h)
