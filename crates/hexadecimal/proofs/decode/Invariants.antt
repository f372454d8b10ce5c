use Rattle.std.proofs.Common.{◌≡◌, ℕ, [], ◌<◌, get_or, Some, vec_items, vec_len}
use Rattle.hexadecimal.specs.Spelling.{byte_of}
use Rattle.hexadecimal.proofs.decode.Given as goal

abbrev pub invariant-loop-high : goal.invariant-loop-high
invariant-loop-high l = (vec_len l.bytes ≡ l.high-index) × ((k : ℕ) → k < l.high-index → byte_of (get_or (get_or l.pairs k []) 0 0) (get_or (get_or l.pairs k []) 1 0) ≡ Some (get_or (vec_items l.bytes) k 0))
