-- The if by a secret register, the if by a public one, and the arms of a secret if.
use Rattle.std.proofs.Common.{◌≡◌, Bool, false, [], ◌∷◌, refl}
use Rattle.labels.specs.Theorems.{with_const, without_const}
use Rattle.plan.specs.Planned.{plan_of}
use Rattle.by_hand.specs.Routines.{choose, source}
use Rattle.by_hand.specs.ByHand.{SecretIf, PublicIf, ArmWithConst, ArmWithoutConst}
use Rattle.by_hand.proofs.Reckoned.{in_four, accepts, refuses, result_by_plan}

secret_plan : (secret : Bool) → plan_of (source secret 2 choose) choose ≡ 2 ∷ 2 ∷ 3 ∷ 3 ∷ 3 ∷ 3 ∷ []
secret_plan secret = in_four (source secret 2 choose) choose (2 ∷ 2 ∷ 3 ∷ 3 ∷ 3 ∷ 3 ∷ []) (λ k. refl)

pub secret_if : (secret : Bool) → SecretIf secret
secret_if secret = record {
  accepted = λ hides. accepts (source secret 2 choose) choose hides 9 _ (secret_plan secret) (λ room. refl);
  result = result_by_plan (source secret 2 choose) choose _ (secret_plan secret);
  taken = λ d. refl;
  passed = λ d. refl;
}

public_plan : (secret : Bool) → plan_of (source secret 0 choose) choose ≡ 0 ∷ 0 ∷ 0 ∷ 0 ∷ 0 ∷ 0 ∷ []
public_plan secret = in_four (source secret 0 choose) choose (0 ∷ 0 ∷ 0 ∷ 0 ∷ 0 ∷ 0 ∷ []) (λ k. refl)

pub public_if : (secret : Bool) → PublicIf secret
public_if secret = record {
  accepted = λ hides. accepts (source secret 0 choose) choose hides 5 _ (public_plan secret) (λ room. refl);
  result = result_by_plan (source secret 0 choose) choose _ (public_plan secret);
  most = refl;
  passed = λ d. refl;
}

with_plan : (secret : Bool) → plan_of (source secret 2 with_const) with_const ≡ 2 ∷ 2 ∷ 6 ∷ 6 ∷ 7 ∷ 7 ∷ []
with_plan secret = in_four (source secret 2 with_const) with_const (2 ∷ 2 ∷ 6 ∷ 6 ∷ 7 ∷ 7 ∷ []) (λ k. refl)

pub arm_with_const : (secret : Bool) → ArmWithConst secret
arm_with_const secret = record { refused = refuses (source secret 2 with_const) with_const false _ 3 _ (with_plan secret) (λ room. refl) }

without_plan : (secret : Bool) → plan_of (source secret 2 without_const) without_const ≡ 2 ∷ 2 ∷ 2 ∷ 3 ∷ 3 ∷ []
without_plan secret = in_four (source secret 2 without_const) without_const (2 ∷ 2 ∷ 2 ∷ 3 ∷ 3 ∷ []) (λ k. refl)

pub arm_without_const : (secret : Bool) → ArmWithoutConst secret
arm_without_const secret = record { accepted = λ hides. accepts (source secret 2 without_const) without_const hides 18 _ (without_plan secret) (λ room. refl) }
