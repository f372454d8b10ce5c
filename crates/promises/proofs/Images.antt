-- An image that neither reading nor converting refuses is an accepted source.
use Rattle.std.proofs.Common.{leb, [], take_all, is_some, le_of_eq, sym, ap, ◌∙◌}
use Rattle.std.proofs.lemmas.Bool.{leb-true}
use Rattle.program.specs.declared.refusal.Reason.TheVariants.{NotASource, TooManySteps}
use Rattle.program.specs.Headers.{is_source}
use Rattle.program.specs.Refusals.{unless, or_else}
use Rattle.program.specs.Sound.{SoundList}
use Rattle.program.specs.Pairing.{pairing}
use Rattle.header.proofs.Rewritten.{header_sound}
use Rattle.image.proofs.Answering.{header_is_good, code_sound}
use Rattle.image.proofs.Sounding.{SoundCode}
use Rattle.converter.specs.Converting.{place_refusal, result_of}
use Rattle.converter.proofs.Results.{source_there}
use Rattle.counting.specs.Counting.{most_steps}
use Rattle.calls.specs.Benches.{Seated}
use Rattle.calls.specs.Calls.{source_at}
use Rattle.promises.specs.Kept.{ImagesAccepted}
use Rattle.program.proofs.Refusals.{both, passed}

module _ (s : Seated) (sound : SoundCode s.header s.code) where
  whole_list : SoundList s.header s.code
  whole_list = record {
    room = le_of_eq (sym sound.long);
    bounds = sound.bounds;
    pairs = ap (λ l. is_some (pairing [] 0 l)) (take_all s.header.count s.code (le_of_eq sound.long)) ∙ sound.pairs;
  }

pub images_accepted : ImagesAccepted
images_accepted hides bs small read unrefused =
    let s = source_at bs in
    let size = unless (leb (most_steps (result_of s.header s.code)) 1000000) TooManySteps 0 in
    let later = or_else (place_refusal s.header s.code hides) size in
    let first = unless (is_source s.header.kind) NotASource 0 in
    let then = both (place_refusal s.header s.code hides) size (both first later unrefused).1 in
    let sound = code_sound bs read in
    record {
      source = record {
        kind = source_there s.header.kind later (sym unrefused);
        header = header_sound bs small (header_is_good bs read);
        list = whole_list s sound;
        whole = sound.long;
      };
      places = then.0;
      short = leb-true (most_steps (result_of s.header s.code)) 1000000 (passed (leb (most_steps (result_of s.header s.code)) 1000000) TooManySteps 0 then.1);
    }
