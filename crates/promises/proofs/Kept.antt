-- All that the promises need of a source that is accepted.
use Rattle.promises.specs.Kept.{Kept}
use Rattle.promises.proofs.Images.{images_accepted}
use Rattle.promises.proofs.Following.{runs_follow}
use Rattle.promises.proofs.Looking.{runs_alike}
use Rattle.promises.proofs.Counting.{runs_counted}

pub kept : Kept
kept = record { images = images_accepted; follow = runs_follow; alike = runs_alike; counted = runs_counted }
