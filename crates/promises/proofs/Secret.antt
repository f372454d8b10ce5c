-- Secret words cannot be told apart.
use Rattle.std.proofs.Common.{◌≡◌, ◌<◌, get_or, List, [], replicate, Ok, Some, None, Option, sym, refl, ap, ◌∙◌, subst}
use Rattle.program.specs.declared.refusal.Refusal.{Refusal}
use Rattle.memory.specs.Description.{Description}
use Rattle.memory.specs.Accesses.{left}
use Rattle.calls.specs.declared.Call.{Call}
use Rattle.calls.specs.Bytes.{ImageOfBytes, OfBytes}
use Rattle.calls.specs.Benches.{Seated, Bench, new}
use Rattle.calls.specs.Calls.{refused, leaves, after}
use Rattle.promises.specs.Logs.{Entry, log}
use Rattle.promises.specs.Promises.{SameButSecrets, same, seats, puts, args, early_puts, early_args, AllSameButSecrets, EntriesLookAlike, LogsLookAlike}
use Rattle.promises.specs.Promises as P
use Rattle.promises.specs.Kept.{ImagesAccepted, ResultRunsAlike}
use Rattle.promises.proofs.Logged.{logged}
use Rattle.promises.proofs.Sound.{Sound, source_after, sound_after}
use Rattle.promises.proofs.Agreeing.{Shared, Own, own, of, Agree}
use Rattle.promises.proofs.Accepting.{same_refusal, accepted}

abbrev entry : Call → Bench → Entry
entry c b = logged c b (refused c b)

-- two calls, both refused or both accepted, leave two benches that agree, and look alike
pub record Stepped (x y : Call) (a : Shared) (o p : Own) (why : Option Refusal) : Type 0 where
  pub then : Shared
  pub mine : Own
  pub other : Own
  pub one : left why (of a o) (leaves x (of a o)) ≡ of then mine
  pub two : left why (of a p) (leaves y (of a p)) ≡ of then other
  pub agree : Agree then mine other
  pub looks : EntriesLookAlike (logged x (of a o) why) (logged y (of a p) why)

-- two benches that agree
pub record Twins (b c : Bench) : Type 0 where
  pub shared : Shared
  pub mine : Own
  pub other : Own
  pub one : b ≡ of shared mine
  pub two : c ≡ of shared other
  pub agree : Agree shared mine other

-- the image of the second call is the image of the first
same_bytes : {b : Bench} {x y : Call} → SameButSecrets b x y → ImageOfBytes x → ImageOfBytes y
same_bytes (same c) h = h
same_bytes (seats v w e) h = λ i. subst (λ l. get_or l i 0 < 256) e (h i)
same_bytes (puts t i v w e) h = tt
same_bytes (args r v w e) h = tt
same_bytes (early_puts t i v w e) h = tt
same_bytes (early_args r v w e) h = tt

module _ (images : ImagesAccepted) (alike : ResultRunsAlike) where
  stepped : (a : Shared) (o p : Own) {x y : Call} (why : Option Refusal) → SameButSecrets (of a o) x y → Agree a o p → (u v : Option Seated) → Sound u (of a o) → Sound v (of a p) → refused x (of a o) ≡ why → Stepped x y a o p why
  stepped a o p (Some e) h g u v s z r = record { then = a; mine = o; other = p; one = refl; two = refl; agree = g; looks = record { refusal = refl; visits = refl; seen = refl; answer = λ q. refl } }
  stepped a o p None h g u v s z r =
      let n = accepted alike a o p h g u v s z r in
      record {
        then = n.then;
        mine = n.mine;
        other = n.other;
        one = n.one;
        two = n.two;
        agree = n.agree;
        looks = record {
          refusal = refl;
          visits = n.visits;
          seen = ap (λ b. b.memory.seen) n.one ∙ sym (ap (λ b. b.memory.seen) n.two);
          answer = λ q. ap Ok (n.reply q);
        };
      }

  abbrev Steps : Call → Call → Bench → Bench → Type 0
  Steps x y b c = SameButSecrets b x y → (u v : Option Seated) → Sound u b → Sound v c → Twins (after x b) (after y c) × EntriesLookAlike (entry x b) (entry y c)

  steps_of : (x y : Call) (a : Shared) (o p : Own) → Agree a o p → Steps x y (of a o) (of a p)
  steps_of x y a o p g h u v s z =
      let why = refused x (of a o) in
      let q : why ≡ refused y (of a p) = same_refusal a o p h g in
      let n = stepped a o p why h g u v s z refl in
      let t : Twins (after x (of a o)) (left why (of a p) (leaves y (of a p))) = record { shared = n.then; mine = n.mine; other = n.other; one = n.one; two = n.two; agree = n.agree } in
      (subst (λ r. Twins (after x (of a o)) (left r (of a p) (leaves y (of a p)))) q t, subst (λ r. EntriesLookAlike (entry x (of a o)) (logged y (of a p) r)) q n.looks)

  steps_twins : (x y : Call) (b c : Bench) → Twins b c → Steps x y b c
  steps_twins x y b c t = subst (λ u. Steps x y u c) (sym t.one) (subst (λ v. Steps x y (of t.shared t.mine) v) (sym t.two) (steps_of x y t.shared t.mine t.other t.agree))

  pub each : {b : Bench} (c : Bench) {xs ys : List Call} → AllSameButSecrets b xs ys → OfBytes xs → Twins b c → (u v : Option Seated) → Sound u b → Sound v c → LogsLookAlike (log xs b) (log ys c)
  each c (P.AllSameButSecrets.none b) small t u v s z = P.LogsLookAlike.none
  each c (P.AllSameButSecrets.more b x y xs ys h later) small t u v s z =
      let n = steps_twins x y b c t h u v s z in
      P.LogsLookAlike.more (entry x b) (entry y c) (log xs (after x b)) (log ys (after y c)) n.1
      (each (after y c) later small.1 n.0 (left (refused x b) u (source_after x u)) (left (refused y c) v (source_after y v)) (sound_after images x u b small.0 s) (sound_after images y v c (same_bytes h small.0) z))

pub twins_new : (d : Description) → Twins (new d) (new d)
twins_new d =
    let a : Shared = record { rules = d.rules; seen = []; seated = None } in
    let o = own d.cells (replicate 16 0) None in
    record { shared = a; mine = o; other = o; one = refl; two = refl; agree = record { size = refl; lasts = refl; public = (refl, refl) } }
