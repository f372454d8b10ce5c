-- Which places cannot be converted.
use Rattle.std.specs.Prelude.{ℕ, suc, Bool, cond, not, ◌&&◌, ◌||◌, List, [], ◌∷◌, Some, None, Option}
use Rattle.instructions.specs.declared.Op.{Op}
use Rattle.instructions.specs.declared.Op.TheVariants.{Set, Pick, Load, Store}
use Rattle.instructions.specs.declared.Instruction.{Instruction}
use Rattle.instructions.specs.declared.Instruction.TheVariants.{Do, If, Else, End, Repeat, Again}
use Rattle.program.specs.declared.opening.Marked.{Marked}
use Rattle.program.specs.declared.refusal.Refusal.{Refusal}
use Rattle.program.specs.declared.refusal.Reason.{Reason}
use Rattle.program.specs.declared.refusal.Reason.TheVariants.{SecretRepeat, SecretIndex, PublicStore}
use Rattle.program.specs.Refusals.{refusal}
use Rattle.labels.specs.Kinds.{secrecy}
use Rattle.labels.specs.Rules.{mask_of}
use Rattle.labels.specs.Passes.{opens}

-- whether an access to a table is hidden by a memory that hides
abbrev pub hidden_by : Bool → ℕ → Bool
hidden_by hides t = hides

module _ (secret hidden : ℕ → Bool) where
  -- where the registers of A are secret ones, and m says that the place is masked: an index that
  -- shows, and then a store into a public table that would keep something secret
  abbrev pub wrong_op : (ℕ → Bool) → Bool → Op → Option Reason
  wrong_op A m (Set d v) = None
  wrong_op A m (Pick d a b) = None
  wrong_op A m (Load d a t) = cond (A a && not (hidden t)) (Some SecretIndex) None
  wrong_op A m (Store d a t) = cond (A a && not (hidden t)) (Some SecretIndex) (cond (not (secret t) && (m || (A d || A a))) (Some PublicStore) None)

  abbrev pub wrong : (ℕ → Bool) → Bool → Instruction → Option Reason
  wrong A m (Do op) = wrong_op A m op
  wrong A m (If a) = None
  wrong A m Else = None
  wrong A m End = None
  wrong A m (Repeat a k) = cond (A a) (Some SecretRepeat) None
  wrong A m Again = None

  -- refused at place p, or later
  abbrev pub or_later : Option Reason → ℕ → Option Refusal → Option Refusal
  or_later None p later = later
  or_later (Some why) p later = Some (refusal why p)

  -- the first place that cannot be converted
  abbrev pub first_wrong : (ℕ → ℕ → Bool) → List (Marked Bool) → ℕ → List Instruction → Option Refusal
  first_wrong S ks p [] = None
  first_wrong S ks p (i ∷ is) = or_later (wrong (S p) (mask_of secrecy ks) i) p (first_wrong S (opens secrecy (S p) ks p i) (suc p) is)
