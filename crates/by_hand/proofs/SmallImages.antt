-- Images at the edges of what is read.
use Rattle.std.proofs.Common.{◌≡◌, ℕ, true, false, List, ◌++◌, length, length-append, refl, ap, arith}
use Rattle.std.specs.Prelude.{Some, None, nat_le}
use Rattle.program.specs.declared.refusal.Reason.TheVariants.{BadHeader, NoRoomForCode}
use Rattle.program.specs.Firsts.{all_below}
use Rattle.program.specs.Refusals.{refusal, unless}
use Rattle.header.specs.Layout.{tables_at, header_at, header_good}
use Rattle.image.specs.Images.{read_refusal}
use Rattle.by_hand.specs.SmallImages.{saying, SmallImages}
use Rattle.by_hand.proofs.Reckoned.{le_true}

empty : (room : ℕ) → read_refusal (saying 0) room ≡ None
unfolding all_below tables_at header_at header_good
empty room = ap (λ c. unless c NoRoomForCode 0) (le_true 0 room (omega arith))

-- where the header is long enough and not good, nothing else is asked
refused : (bs : List ℕ) (room : ℕ) → nat_le 64 (length bs) ≡ true → header_good bs ≡ false → read_refusal bs room ≡ Some (refusal BadHeader 0)
refused bs room long bad = rw long (rw bad refl)

long_enough : (body : List ℕ) → nat_le 64 (length (saying 201 ++ body)) ≡ true
long_enough body = le_true 64 _ (let l = length-append (saying 201) body in omega arith)

too_many : (body : List ℕ) → header_good (saying 201 ++ body) ≡ false
unfolding all_below tables_at header_good
too_many body = refl

pub small_images : SmallImages
unfolding all_below tables_at header_at header_good
small_images = record {
  empty = empty;
  too_long = λ body room. refused (saying 201 ++ body) room (long_enough body) (too_many body);
  most_rounds = λ room. refl;
  no_round = λ room. refl;
}
