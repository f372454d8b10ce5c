-- Judgements of what was written over filler.
use Rattle.std.proofs.Common.{◌≡◌, ℕ, zero, suc, ◌-◌, true, cond, List, ◌++◌, length, take, drop, replicate, Ok, Err, refl, ap, ◌∙◌}
use Rattle.std.proofs.lemmas.List.{take_at, drop_at, drop-replicate}
use Rattle.std.specs.Str.{bytes_eq}
use Rattle.std.proofs.lemmas.Slice.Eq.{bytes_eq-Decides}
use Rattle.program.specs.declared.refusal.Refusal.{Refusal}
use Rattle.trials.specs.declared.answer.Answer.TheVariants.{Written, Refused, OtherBytes, Disturbed}
use Rattle.trials.specs.Answers.{untouched, judged}

pub untouched_filler : (n : ℕ) → untouched (replicate n 165) ≡ true
untouched_filler zero = refl
untouched_filler (suc n) = untouched_filler n

-- an image that was written with its length, over filler
pub judged_written : (bs : List ℕ) (room : ℕ) → judged (Ok (length bs)) (bs ++ drop (length bs) (replicate room 165)) bs ≡ Written (length bs)
judged_written bs room =
    let rest = drop (length bs) (replicate room 165) in
    let behind : untouched (drop (length bs) (bs ++ rest)) ≡ true = ap untouched (drop_at bs rest (length bs) refl ∙ drop-replicate (length bs) room 165) ∙ untouched_filler (room - length bs) in
    let front : bytes_eq (take (length bs) (bs ++ rest)) bs ≡ true = (bytes_eq-Decides (take (length bs) (bs ++ rest)) bs).1 (take_at bs rest (length bs) refl) in
    λ t. cond (behind t) (cond (front t) (Written (length bs)) OtherBytes) Disturbed

pub judged_refused : (e : Refusal) (bs : List ℕ) (room : ℕ) → judged (Err e) (replicate room 165) bs ≡ Refused e
judged_refused e bs room = λ t. cond (untouched_filler room t) (Refused e) Disturbed
