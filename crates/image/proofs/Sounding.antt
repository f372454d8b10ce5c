-- The code of a program, cut out of its list.
use Rattle.std.proofs.Common.{◌≡◌, ℕ, ◌<◌, ◌≤◌, true, false, List, [], length, get_or, take, is_some, sym, ap, ◌∙◌, get_or-take}
use Rattle.std.proofs.lemmas.List.{length-take-le}
use Rattle.instructions.specs.declared.Instruction.{Instruction}
use Rattle.instructions.specs.declared.Instruction.TheVariants.{Again}
use Rattle.program.specs.declared.header.Header.{Header}
use Rattle.program.specs.Headers.{registers_of}
use Rattle.program.specs.Bounds.{bound}
use Rattle.program.specs.Pairing.{pairing}
use Rattle.program.specs.Sound.{SoundList}

pub record SoundCode (h : Header) (code : List Instruction) : Type 0 where
  pub long : length code ≡ h.count
  pub bounds : (p : ℕ) → p < h.count → bound (registers_of h.kind) h.used (get_or code p Again) ≡ true
  pub pairs : is_some (pairing [] 0 code) ≡ false

module _ (h : Header) (list : List Instruction) where
  pub as_list : h.count ≤ length list → SoundCode h (take h.count list) → SoundList h list
  as_list room code = record {
    room = room;
    bounds = λ p lt. ap (bound (registers_of h.kind) h.used) (sym (get_or-take h.count list p Again lt)) ∙ code.bounds p lt;
    pairs = code.pairs;
  }

  pub as_code : SoundList h list → SoundCode h (take h.count list)
  as_code sound = record {
    long = length-take-le h.count list sound.room;
    bounds = λ p lt. ap (bound (registers_of h.kind) h.used) (get_or-take h.count list p Again lt) ∙ sound.bounds p lt;
    pairs = sound.pairs;
  }
