-- Labelled programs of any maker, with no secret if and no repeat by a secret register.
use Rattle.std.specs.Prelude.{Bool}
use Rattle.secrecy.specs.Beyond.{BeyondStays}
use Rattle.secrecy.specs.Unmasked.{UnmaskedCarries}
use Rattle.secrecy.specs.Whole.{WholeRunsAlike}
use Rattle.secrecy.specs.Together.{BareSame, WholeRunsTogether}

pub record OfAnyMaker : Type 0 where
  -- their labels are carried along
  pub carried : UnmaskedCarries
  -- two runs that reach their ends look alike
  pub alike : WholeRunsAlike Bool
  -- with no access by a secret index two runs reach their ends together, or fault together
  pub together : WholeRunsTogether Bool
  -- and what then looks alike is the same
  pub same : BareSame
  -- no run changes a cell beyond all tables
  pub beyond : BeyondStays Bool
