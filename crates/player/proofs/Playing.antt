-- A list of calls, one more at a time.
use Rattle.std.proofs.Common.{◌≡◌, ℕ, ◌+◌, ◌<◌, ◌≤◌, List, [], ◌∷◌, ◌++◌, map, length, get_or, drop, sym, ap, subst, ◌∙◌, append_assoc, append-nil, add-one}
use Rattle.std.proofs.lemmas.List.{map-append, drop_all}
use Rattle.std.proofs.Math.Seq.{drop-cons}
use Rattle.calls.specs.declared.Call.{Call}
use Rattle.calls.specs.Benches.{Bench}
use Rattle.calls.specs.Bytes.{ImageOfBytes, OfBytes}
use Rattle.calls.specs.Calls.{after, after_all}
use Rattle.player.specs.declared.entry.Entry.{Entry}
use Rattle.player.specs.Entries.{Shown, shown, noted, entries_of}

-- these entries and those that come, where a bench has come so far
abbrev pub whole_log : List Call → ℕ → Bench → List Entry → List Shown
whole_log cs i b es = map shown es ++ entries_of (drop i cs) b

-- where it comes to
abbrev pub whole_after : List Call → ℕ → Bench → Bench
whole_after cs i b = after_all (drop i cs) b

-- all images are bytes, where those of the calls that come are
abbrev pub WholeOfBytes : List Call → ℕ → Type 0
WholeOfBytes cs i = OfBytes (drop i cs) → OfBytes cs

module _ (cs : List Call) (i : ℕ) where
  module _ (c : Call) (below : i < length cs) (here : c ≡ get_or cs i c) where
    next : drop i cs ≡ c ∷ drop (i + 1) cs
    next = drop-cons cs i c below ∙ (λ t. sym here t ∷ drop (sym (add-one i) t) cs)

    pub bytes_more : ImageOfBytes c → WholeOfBytes cs i → WholeOfBytes cs (i + 1)
    bytes_more h all rest = all (subst OfBytes (sym next) (h, rest))

    module _ (b b' : Bench) (left_behind : b' ≡ after c b) where
      pub log_more : (es es' : List Entry) (e : Entry) → es' ≡ es ++ e ∷ [] → shown e ≡ noted c b → whole_log cs (i + 1) b' es' ≡ whole_log cs i b es
      log_more es es' e more told =
          (λ t. map shown (more t) ++ entries_of (drop (i + 1) cs) (left_behind t))
          ∙ ap (λ l. l ++ entries_of (drop (i + 1) cs) (after c b)) (map-append shown es (e ∷ []))
          ∙ append_assoc (map shown es) (shown e ∷ []) (entries_of (drop (i + 1) cs) (after c b))
          ∙ ap (λ x. map shown es ++ (x ∷ entries_of (drop (i + 1) cs) (after c b))) told
          ∙ ap (λ l. map shown es ++ entries_of l b) (sym next)

      pub after_more : whole_after cs (i + 1) b' ≡ whole_after cs i b
      after_more = ap (after_all (drop (i + 1) cs)) left_behind ∙ ap (λ l. after_all l b) (sym next)

  pub bytes_over : length cs ≤ i → WholeOfBytes cs i → OfBytes cs
  bytes_over over all = all (subst OfBytes (sym (drop_all i cs over)) tt)

  module _ (b : Bench) (over : length cs ≤ i) where
    pub log_over : (es : List Entry) → whole_log cs i b es ≡ map shown es
    log_over es = ap (λ l. map shown es ++ entries_of l b) (drop_all i cs over) ∙ append-nil (map shown es)

    pub after_over : whole_after cs i b ≡ b
    after_over = ap (λ l. after_all l b) (drop_all i cs over)
