-- Accepted calls that differ in secret words only keep two benches agreeing.
use Rattle.std.proofs.Common.{◌≡◌, ℕ, ◌+◌, ◌<◌, false, not, ltb, List, [], ◌∷◌, ◌++◌, length, set, Some, None, vec_items, Option, is_none, sym, refl, ap, ◌∙◌, length-set}
use Rattle.std.proofs.lemmas.Bool.{leb-false}
use Rattle.program.specs.declared.refusal.Reason.TheVariants.{AlreadySeated, MemoryTooSmall, NoneSeated, NoSuchTable, IndexTooLarge, NoFreeMarks, NoSuchRegister, SecretTable, NoOutcome}
use Rattle.program.specs.Headers.{cells_of, first_cell}
use Rattle.program.specs.Refusals.{or_else}
use Rattle.program.proofs.Refusals.{both}
use Rattle.header.specs.Layout.{header_at}
use Rattle.image.specs.Images.{image_refusal}
use Rattle.memory.specs.declared.Access.TheVariants.{Read, Write}
use Rattle.machine.specs.States.{held}
use Rattle.machine.specs.Machine.{length_of}
use Rattle.labels.specs.Sets.{bits, secret_tables}
use Rattle.calls.specs.declared.Call.{Call}
use Rattle.calls.specs.declared.Call.TheVariants.{Seat, Put, Arg, Go, Look, Open, Outcome, Clear}
use Rattle.calls.specs.declared.Answer.TheVariants.{Word}
use Rattle.calls.specs.Benches.{Seated, or_blank, most_steps_of, most_marks_of, none_seated, no_such_table, secret_table, outside, dear}
use Rattle.calls.specs.Calls.{Test, ◌⇒◌, first_of, source_at, converted, unconverted, refused, counts}
use Rattle.promises.specs.Promises.{SameButSecrets, same, seats, puts, args, early_puts, early_args}
use Rattle.promises.specs.Kept.{ResultRunsAlike}
use Rattle.promises.proofs.Refused.{differ, fails, rest}
use Rattle.promises.proofs.Sound.{Sound}
use Rattle.promises.proofs.Going.{going}
use Rattle.promises.proofs.Agreeing.{Shared, Own, own, of, sees, sits, Public, Agree, Next, same_put, same_arg, all_same}

-- both are refused, or neither
pub same_refusal : (a : Shared) (o p : Own) {x y : Call} → SameButSecrets (of a o) x y → Agree a o p → refused x (of a o) ≡ refused y (of a p)
same_refusal a o p (same (Seat v)) g =
    ap (λ n. or_else (first_of (not (is_none a.seated) ⇒ AlreadySeated ∷ []))
    (or_else (image_refusal (vec_items v)) (or_else (unconverted a.rules.hides (source_at (vec_items v))) (first_of (ltb n (cells_of (header_at (vec_items v)).tables) ⇒ MemoryTooSmall ∷ []))))) g.size
same_refusal a o p (same (Put t i w)) g = refl
same_refusal a o p (same (Arg r w)) g = refl
same_refusal a o p (same (Go room)) g = refl
same_refusal a o p (same (Look t i)) g = refl
same_refusal a o p (same (Open t i)) g = refl
same_refusal a o p (same Outcome) g = ap (λ n. first_of (n ⇒ NoOutcome ∷ [])) g.lasts
same_refusal a o p (same Clear) g = refl
same_refusal a o p (seats v w e) g =
    λ t. or_else (first_of (not (is_none a.seated) ⇒ AlreadySeated ∷ []))
    (or_else (image_refusal (e t)) (or_else (unconverted a.rules.hides (source_at (e t))) (first_of (ltb (g.size t) (cells_of (header_at (e t)).tables) ⇒ MemoryTooSmall ∷ []))))
same_refusal a o p (puts t i v w e) g = refl
same_refusal a o p (args r v w e) g = refl
same_refusal a o p (early_puts t i v w e) g = refl
same_refusal a o p (early_args r v w e) g = refl

putting : (a : Shared) (o p : Own) (t i v w : ℕ) → Agree a o p → refused (Put t i v) (of a o) ≡ None → (secret_table (of a o) t ≡ false → v ≡ w) → Next (Put t i v) (Put t i w) a o p
putting a o p t i v w g h e =
    let b = of a o in
    let ts = (or_blank a.seated).header.tables in
    let t3 : List Test = dear Write b t ⇒ NoFreeMarks ∷ [] in
    let t2 : List Test = outside b t i ⇒ IndexTooLarge ∷ t3 in
    let t1 : List Test = no_such_table b t ⇒ NoSuchTable ∷ t2 in
    let hi = leb-false (length_of ts t) i (fails (outside b t i) IndexTooLarge t3 (rest (no_such_table b t) NoSuchTable t2 (rest (none_seated b) NoneSeated t1 h))) in
    record {
      then = sees a (a.seen ++ a.rules.shows Write (first_cell ts t) (length_of ts t) i);
      mine = own (set o.cells (first_cell ts t + i) v) o.entry o.last;
      other = own (set p.cells (first_cell ts t + i) w) p.entry p.last;
      one = refl;
      two = refl;
      agree = record {
        size = length-set o.cells (first_cell ts t + i) v ∙ g.size ∙ sym (length-set p.cells (first_cell ts t + i) w);
        lasts = g.lasts;
        public = by a.seated (fails (none_seated b) NoneSeated t1 h) hi e g.public;
      };
      visits = refl;
      reply = λ z. refl;
    }
  where
    by : (s : Option Seated) → is_none s ≡ false → i < length_of (or_blank s).header.tables t → (secret_tables (or_blank s).header.tables t ≡ false → v ≡ w) → Public s o p
        → Public s (own (set o.cells (first_cell (or_blank s).header.tables t + i) v) o.entry o.last) (own (set p.cells (first_cell (or_blank s).header.tables t + i) w) p.entry p.last)
    by None n hi e l = differ n
    by (Some s) n hi e l = same_put s o.entry p.entry o.cells p.cells t i v w g.size hi e l

arging : (a : Shared) (o p : Own) (r v w : ℕ) → Agree a o p → length o.entry ≡ length p.entry → refused (Arg r v) (of a o) ≡ None → (bits (or_blank a.seated).header.secret_entry r ≡ false → v ≡ w)
    → Next (Arg r v) (Arg r w) a o p
arging a o p r v w g n h e = record {
  then = a;
  mine = own o.cells (set o.entry r v) o.last;
  other = own p.cells (set p.entry r w) p.last;
  one = refl;
  two = refl;
  agree = record { size = g.size; lasts = g.lasts; public = by a.seated (fails (is_none a.seated) NoneSeated (ltb 15 r ⇒ NoSuchRegister ∷ []) h) e g.public };
  visits = refl;
  reply = λ z. refl;
}
  where
    by : (s : Option Seated) → is_none s ≡ false → (bits (or_blank s).header.secret_entry r ≡ false → v ≡ w) → Public s o p
        → Public s (own o.cells (set o.entry r v) o.last) (own p.cells (set p.entry r w) p.last)
    by None k e l = differ k
    by (Some s) k e l = same_arg s o.entry p.entry o.cells p.cells r v w n e l

seating : (a : Shared) (o p : Own) (v w : _) → vec_items v ≡ vec_items w → Agree a o p → refused (Seat v) (of a o) ≡ None → Next (Seat v) (Seat w) a o p
seating a o p v w e g h =
    let taken = first_of (not (is_none a.seated) ⇒ AlreadySeated ∷ []) in
    let later = or_else (image_refusal (vec_items v)) (or_else (unconverted a.rules.hides (source_at (vec_items v))) (first_of (ltb (length o.cells) (cells_of (header_at (vec_items v)).tables) ⇒ MemoryTooSmall ∷ []))) in
    record {
      then = sits a (converted (source_at (vec_items v)));
      mine = o;
      other = p;
      one = refl;
      two = λ t. of (sits a (converted (source_at (sym e t)))) p;
      agree = record {
        size = g.size;
        lasts = g.lasts;
        public = by (converted (source_at (vec_items v))) a.seated (fails (not (is_none a.seated)) AlreadySeated [] (both taken later h).0) g.public;
      };
      visits = refl;
      reply = λ z t. counts (most_steps_of (converted (source_at (e t)))) (most_marks_of a.rules (converted (source_at (e t))));
    }
  where
    by : (n : Seated) (s : Option Seated) → not (is_none s) ≡ false → Public s o p → Public (Some n) o p
    by n None k l = all_same n o p l
    by n (Some s) k l = differ k

looking : (a : Shared) (o p : Own) (t i : ℕ) → Agree a o p → refused (Look t i) (of a o) ≡ None → Next (Look t i) (Look t i) a o p
looking a o p t i g h =
    let b = of a o in
    let ts = (or_blank a.seated).header.tables in
    let t4 : List Test = dear Read b t ⇒ NoFreeMarks ∷ [] in
    let t3 : List Test = outside b t i ⇒ IndexTooLarge ∷ t4 in
    let t2 : List Test = secret_table b t ⇒ SecretTable ∷ t3 in
    let t1 : List Test = no_such_table b t ⇒ NoSuchTable ∷ t2 in
    let h2 = rest (no_such_table b t) NoSuchTable t2 (rest (none_seated b) NoneSeated t1 h) in
    let hi = leb-false (length_of ts t) i (fails (outside b t i) IndexTooLarge t4 (rest (secret_table b t) SecretTable t3 h2)) in
    record {
      then = sees a (a.seen ++ a.rules.shows Read (first_cell ts t) (length_of ts t) i);
      mine = o;
      other = p;
      one = refl;
      two = refl;
      agree = record { size = g.size; lasts = g.lasts; public = g.public };
      visits = refl;
      reply = λ z. ap Word (by a.seated (fails (none_seated b) NoneSeated t1 h) (fails (secret_table b t) SecretTable t3 h2) hi g.public);
    }
  where
    by : (s : Option Seated) → is_none s ≡ false → secret_tables (or_blank s).header.tables t ≡ false → i < length_of (or_blank s).header.tables t → Public s o p
        → held o.cells (first_cell (or_blank s).header.tables t + i) ≡ held p.cells (first_cell (or_blank s).header.tables t + i)
    by None k e hi l = differ k
    by (Some s) k e hi l = l.cells t i e hi

opening : (a : Shared) (o p : Own) (t i : ℕ) → Agree a o p → Next (Open t i) (Open t i) a o p
opening a o p t i g =
    let ts = (or_blank a.seated).header.tables in
    record {
      then = sees a (a.seen ++ a.rules.shows Read (first_cell ts t) (length_of ts t) i);
      mine = o;
      other = p;
      one = refl;
      two = refl;
      agree = record { size = g.size; lasts = g.lasts; public = g.public };
      visits = refl;
      reply = λ z. differ z;
    }

staying : (a : Shared) (o p : Own) → Agree a o p → Next Outcome Outcome a o p
staying a o p g = record { then = a; mine = o; other = p; one = refl; two = refl; agree = g; visits = refl; reply = λ z. differ z }

clearing : (a : Shared) (o p : Own) → Agree a o p → Next Clear Clear a o p
clearing a o p g = record {
  then = sees a [];
  mine = o;
  other = p;
  one = refl;
  two = refl;
  agree = record { size = g.size; lasts = g.lasts; public = g.public };
  visits = refl;
  reply = λ z. refl;
}

pub accepted : ResultRunsAlike → (a : Shared) (o p : Own) {x y : Call} → SameButSecrets (of a o) x y → Agree a o p → (u v : Option Seated) → Sound u (of a o) → Sound v (of a p) → refused x (of a o) ≡ None → Next x y a o p
accepted alike a o p (same (Seat v)) g u u′ s z h = seating a o p v v refl g h
accepted alike a o p (same (Put t i w)) g u u′ s z h = putting a o p t i w w g h (λ e. refl)
accepted alike a o p (same (Arg r w)) g u u′ s z h = arging a o p r w w g (s.low ∙ sym z.low) h (λ e. refl)
accepted alike a o p (same (Go room)) g u u′ s z h = going alike room a o p u g s z.low h
accepted alike a o p (same (Look t i)) g u u′ s z h = looking a o p t i g h
accepted alike a o p (same (Open t i)) g u u′ s z h = opening a o p t i g
accepted alike a o p (same Outcome) g u u′ s z h = staying a o p g
accepted alike a o p (same Clear) g u u′ s z h = clearing a o p g
accepted alike a o p (seats v w e) g u u′ s z h = seating a o p v w e g h
accepted alike a o p (puts t i v w e) g u u′ s z h = putting a o p t i v w g h (λ q. differ (sym e ∙ q))
accepted alike a o p (early_puts t i v w e) g u u′ s z h =
    let b = of a o in differ (sym e ∙ fails (none_seated b) NoneSeated (no_such_table b t ⇒ NoSuchTable ∷ outside b t i ⇒ IndexTooLarge ∷ dear Write b t ⇒ NoFreeMarks ∷ []) h)
accepted alike a o p (early_args r v w e) g u u′ s z h = differ (sym e ∙ fails (none_seated (of a o)) NoneSeated (ltb 15 r ⇒ NoSuchRegister ∷ []) h)
accepted alike a o p (args r v w e) g u u′ s z h = arging a o p r v w g (s.low ∙ sym z.low) h (λ q. differ (sym e ∙ q))
