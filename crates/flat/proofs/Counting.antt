-- The cells that count, of those that are handed in.
use Rattle.std.proofs.Common.{◌≡◌, ℕ, ◌<◌, min, List, length, get_or, set, arith, length-take}
use Rattle.std.proofs.lemmas.List.{get_or-take}
use Rattle.std.proofs.Math.Seq.{take-set-lt}
use Rattle.flat.specs.Flat.{counting}

pub length_counting : (cells : List ℕ) → length (counting cells) ≡ min 65536 (length cells)
length_counting cells = length-take 65536 cells

pub get_counting : (cells : List ℕ) (i : ℕ) → i < length (counting cells) → get_or (counting cells) i 0 ≡ get_or cells i 0
get_counting cells i h = let l = length_counting cells in get_or-take 65536 cells i 0 (omega arith)

pub set_counting : (cells : List ℕ) (i x : ℕ) → i < length (counting cells) → counting (set cells i x) ≡ set (counting cells) i x
set_counting cells i x h = let l = length_counting cells in take-set-lt 65536 cells i x (omega arith)
