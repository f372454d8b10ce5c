-- The promises, of every memory that keeps the laws.
use Rattle.std.proofs.Common.{None}
use Rattle.calls.specs.Benches.{new}
use Rattle.promises.specs.Promises.{Promised}
use Rattle.promises.proofs.Kept.{kept}
use Rattle.promises.proofs.Sound.{sound_new}
use Rattle.promises.proofs.Plain.{follows}
use Rattle.promises.proofs.Secret.{each, twins_new}
use Rattle.promises.proofs.Counts.{tallies}

pub promised : Promised
promised d law =
    let s = sound_new d law in
    record {
      plain = λ cs h. follows kept.images kept.follow cs None (new d) h s;
      secret = λ xs ys h e. each kept.images kept.alike (new d) e h (twins_new d) None None s s;
      counts = λ cs h. tallies kept.images kept.counted cs None (new d) h s;
    }
