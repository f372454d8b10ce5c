-- The index from a round before, and repeats in repeats.
use Rattle.std.proofs.Common.{◌≡◌, Bool, true, false, [], ◌∷◌, refl, ap, ◌∙◌, arith}
use Rattle.std.specs.Prelude.{None}
use Rattle.program.specs.declared.refusal.Reason.TheVariants.{MemoryTooSmall, NoRoomForVisits, NoFreeMarks}
use Rattle.program.specs.Refusals.{unless, or_else}
use Rattle.memory.specs.Description.{free}
use Rattle.plan.specs.Planned.{plan_of}
use Rattle.by_hand.specs.Routines.{walk, rounds, too_many_rounds, source}
use Rattle.by_hand.specs.ByHand.{SecretWalk, MostRounds, TooManyRounds}
use Rattle.by_hand.proofs.Reckoned.{in_four, le_true, accepts, refuses, result_by_plan}

-- a round makes register 2 secret, and then what is loaded by it
walk_plan : (secret : Bool) → plan_of (source secret 8 walk) walk ≡ 8 ∷ 13 ∷ 13 ∷ 13 ∷ 13 ∷ []
walk_plan true = in_four (source true 8 walk) walk (8 ∷ 13 ∷ 13 ∷ 13 ∷ 13 ∷ []) (λ k. refl)
walk_plan false = in_four (source false 8 walk) walk (8 ∷ 13 ∷ 13 ∷ 13 ∷ 13 ∷ []) (λ k. refl)

pub secret_walk : (secret : Bool) → SecretWalk secret
secret_walk secret = record { refused = refuses (source secret 8 walk) walk false _ 1 _ (walk_plan secret) (λ room. refl) }

rounds_plan : (secret : Bool) → plan_of (source secret 0 rounds) rounds ≡ 0 ∷ 0 ∷ 0 ∷ 0 ∷ 0 ∷ []
rounds_plan secret = in_four (source secret 0 rounds) rounds (0 ∷ 0 ∷ 0 ∷ 0 ∷ 0 ∷ []) (λ k. refl)

all_pass : (fits room marks : Bool) → fits ≡ true → room ≡ true → marks ≡ true
    → or_else (unless fits MemoryTooSmall 0) (or_else (unless room NoRoomForVisits 0) (unless marks NoFreeMarks 0)) ≡ None
all_pass fits room marks h i j =
    ap (λ x. or_else (unless x MemoryTooSmall 0) (or_else (unless room NoRoomForVisits 0) (unless marks NoFreeMarks 0))) h
    ∙ ap (λ x. or_else (unless x NoRoomForVisits 0) (unless marks NoFreeMarks 0)) i
    ∙ ap (λ x. unless x NoFreeMarks 0) j

pub most_rounds : (secret : Bool) → MostRounds secret
most_rounds secret = record {
  most = refl;
  result = result_by_plan (source secret 0 rounds) rounds _ (rounds_plan secret);
  accepted = λ hides. accepts (source secret 0 rounds) rounds hides 4 _ (rounds_plan secret) (λ room. refl);
  run = λ d room fits long. all_pass _ _ _ (le_true 4 _ fits) (le_true 1000000 room long) (le_true 0 (free d) (omega arith));
}

too_many_plan : (secret : Bool) → plan_of (source secret 0 too_many_rounds) too_many_rounds ≡ 0 ∷ 0 ∷ 0 ∷ 0 ∷ 0 ∷ []
too_many_plan secret = in_four (source secret 0 too_many_rounds) too_many_rounds (0 ∷ 0 ∷ 0 ∷ 0 ∷ 0 ∷ []) (λ k. refl)

pub too_many : (secret : Bool) → TooManyRounds secret
too_many secret = record {
  refused = λ hides. refuses (source secret 0 too_many_rounds) too_many_rounds hides _ 0 _ (too_many_plan secret) (λ room. refl);
  run = λ d room. refl;
}
