-- A secret if: the arm that is taken is followed, and the other changes nothing.
use Rattle.std.proofs.Common.{◌≡◌, ℕ, zero, suc, ◌+◌, ◌<◌, refl, ◌∙◌, arith, eq-eqb}
use Rattle.std.proofs.Math.Dec.{eqb-suc-zero}
use Rattle.machine.specs.declared.visit.Choice.TheVariants.{Onward, Inward, Past}
use Rattle.machine.specs.States.{State, visited}
use Rattle.machine.specs.Machine.{Out, fine, fault}
use Rattle.machine.specs.Nested.{and_then, either}
use Rattle.simulation.proofs.Straight.{Words}
use Rattle.simulation.proofs.Predicated.{mask, opened, inverted}
use Rattle.simulation.proofs.Staying.{Quiet, Stays, not_below, quiet_both, opened_else, inverted_else, opened_quiet, inverted_quiet}
use Rattle.simulation.proofs.Tracking.{Live, Tracks, Tracking, live_visited, live_quiet, tracks_lower}

-- the mask of an arm: 0 where its arm is not taken, 1 where it is
opened_zero : (s a : ℕ) (y : Words) → y.registers a ≡ 0 → (opened s a y).registers (16 + s) ≡ 0
opened_zero zero a y h = simp h
opened_zero (suc n) a y h = simp (h, eq-eqb (16 + suc n) (16 + suc n) refl)

opened_one : (s a v : ℕ) (y : Words) → y.registers a ≡ suc v → mask s y ≡ 1 → (opened s a y).registers (16 + s) ≡ 1
opened_one zero a v y h g = simp (h, eqb-suc-zero)
opened_one (suc n) a v y h g = simp (h, g, eqb-suc-zero, eq-eqb (16 + suc n) (16 + suc n) refl)

inverted_one : (s : ℕ) (y : Words) → mask s y ≡ 1 → y.registers (16 + s) ≡ 0 → (inverted s y).registers (16 + s) ≡ 1
inverted_one zero y h g = simp g
inverted_one (suc n) y h g = simp (h, g, eq-eqb (16 + suc n) (16 + suc n) refl)

inverted_zero : (s : ℕ) (y : Words) → mask s y ≡ 1 → y.registers (16 + s) ≡ 1 → (inverted s y).registers (16 + s) ≡ 0
inverted_zero zero y h g = simp g
inverted_zero (suc n) y h g = simp (h, g, eq-eqb (16 + suc n) (16 + suc n) refl)

-- the mask around an if
mask_opened : (s a : ℕ) (y : Words) → mask s (opened s a y) ≡ mask s y
mask_opened zero a y = refl
mask_opened (suc n) a y = opened_else (suc n) a y (16 + n) (not_below (16 + n) (16 + suc n) (omega arith))

mask_inverted : (s : ℕ) (y : Words) → mask s (inverted s y) ≡ mask s y
mask_inverted zero y = refl
mask_inverted (suc n) y = inverted_else (suc n) y (16 + n) (not_below (16 + n) (16 + suc n) (omega arith))

mask_under : (s : ℕ) (x y : Words) → Stays (suc s) x y → mask s y ≡ mask s x
mask_under zero x y h = refl
mask_under (suc n) x y h = h.masks (16 + n) (omega arith) (omega arith)

-- a secret if without else, whose register has n
module _ (s a p : ℕ) (F : State → Out) (f : Words → Words) (x : State) (y : Words) (hs : s < 8) (h : Live s x y) (α : Tracking (suc s) F f) (β : (z : Words) → Stays (suc s) z (f z)) where
  -- the mask around it, after the arm
  arm_mask : mask s (f (opened s a y)) ≡ 1
  arm_mask = mask_under s (opened s a y) (f (opened s a y)) (β (opened s a y)) ∙ mask_opened s a y ∙ h.on

  -- an arm that is not taken
  arm_past : y.registers a ≡ 0 → Live s x (f (opened s a y))
  arm_past e =
      let S = β (opened s a y) in
      live_quiet s s x y (f (opened s a y)) h (quiet_both y (opened s a y) (f (opened s a y)) (opened_quiet s a y hs) (S.dead (opened_zero s a y e))) arm_mask

  -- and one that is
  arm_in : (v : ℕ) → y.registers a ≡ suc v → Tracks (suc s) (F (visited p Inward x)) (f (opened s a y))
  arm_in v e =
      let l = live_quiet s (suc s) x y (opened s a y) h (opened_quiet s a y hs) (opened_one s a v y e h.on) in
      α (visited p Inward x) (opened s a y) (live_visited (suc s) p Inward x (opened s a y) l)

  pub track_arm : (n : ℕ) → y.registers a ≡ n → Tracks s (either n p F fine x) (f (opened s a y))
  track_arm zero e = live_visited s p Past x (f (opened s a y)) (arm_past e)
  track_arm (suc v) e = tracks_lower s (F (visited p Inward x)) (f (opened s a y)) (arm_in v e) arm_mask

  -- with an else at place v
  module _ (v : ℕ) (G : State → Out) (g : Words → Words) (α' : Tracking (suc s) G g) (β' : (z : Words) → Stays (suc s) z (g z)) where
    abbrev first_end : Words
    first_end = f (opened s a y)

    abbrev second : Words
    second = inverted s first_end

    second_mask : mask s (g second) ≡ 1
    second_mask = mask_under s second (g second) (β' second) ∙ mask_inverted s first_end ∙ arm_mask

    own_mask : first_end.registers (16 + s) ≡ (opened s a y).registers (16 + s)
    own_mask = (β (opened s a y)).masks (16 + s) (omega arith) (omega arith)

    second_in : y.registers a ≡ 0 → Tracks (suc s) (G (visited p Past x)) (g second)
    second_in e =
        let l = live_quiet s (suc s) x first_end second (arm_past e) (inverted_quiet s first_end hs) (inverted_one s first_end arm_mask (own_mask ∙ opened_zero s a y e)) in
        α' (visited p Past x) second (live_visited (suc s) p Past x second l)

    second_quiet : (n : ℕ) → y.registers a ≡ suc n → Quiet first_end (g second)
    second_quiet n e =
        quiet_both first_end second (g second) (inverted_quiet s first_end hs)
        ((β' second).dead (inverted_zero s first_end arm_mask (own_mask ∙ opened_one s a n y e h.on)))

    -- after an arm that is taken the other changes nothing
    past_second : (o : Out) → Tracks (suc s) o first_end → Quiet first_end (g second) → Tracks s (and_then o (λ w. fine (visited v Onward w))) (g second)
    past_second (fine z) l Q = live_visited s v Onward z (g second) (live_quiet (suc s) s z first_end (g second) l Q second_mask)
    past_second (fault q z) l Q = Q.mark ∙ l

    pub track_arms : (n : ℕ) → y.registers a ≡ n → Tracks s (either n p (λ z. and_then (F z) (λ w. fine (visited v Onward w))) G x) (g second)
    track_arms zero e = tracks_lower s (G (visited p Past x)) (g second) (second_in e) second_mask
    track_arms (suc n) e = past_second (F (visited p Inward x)) (arm_in n e) (second_quiet n e)
