-- The cases by hand, all of them.
use Rattle.by_hand.specs.ByHand.{ByHand}
use Rattle.by_hand.proofs.Ifs.{secret_if, public_if, arm_with_const, arm_without_const}
use Rattle.by_hand.proofs.Accesses.{load_in_range, load_past_end, secret_load, secret_store}
use Rattle.by_hand.proofs.Repeats.{secret_walk, most_rounds, too_many}
use Rattle.by_hand.proofs.SmallImages.{small_images}
use Rattle.by_hand.proofs.Sources.{sources}

pub by_hand : ByHand
by_hand = record {
  secret_if = secret_if;
  public_if = public_if;
  load_in_range = load_in_range;
  load_past_end = load_past_end;
  secret_load = secret_load;
  secret_store = secret_store;
  arm_with_const = arm_with_const;
  arm_without_const = arm_without_const;
  secret_walk = secret_walk;
  most_rounds = most_rounds;
  too_many_rounds = too_many;
  small_images = small_images;
  sources = sources;
}
