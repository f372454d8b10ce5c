-- No operation changes what make and settings fix.
use Rattle.std.proofs.Common.{◌≡◌, ℕ, ◌+◌, List, length, set, Some, None, Option, refl, length-set}
use Rattle.program.specs.declared.refusal.Refusal.{Refusal}
use Rattle.memory.specs.declared.Access.TheVariants.{Read, Write}
use Rattle.memory.specs.Description.{Mark, Description, marked, cleared}
use Rattle.memory.specs.Accesses.{denied, left, read_after, write_after}
use Rattle.memory.specs.Laws.{Settled}

settled : (d : Description) (why : Option Refusal) (cells : List ℕ) (marks : List Mark) → length cells ≡ length d.cells → Settled d (left why d (marked d cells marks))
settled d None cells marks e = record { size = e; rules = refl }
settled d (Some why) cells marks e = record { size = refl; rules = refl }

pub settled_read : (d : Description) (base len off : ℕ) → Settled d (read_after d base len off)
settled_read d base len off = settled d (denied d Read base len off) d.cells (d.rules.shows Read base len off) refl

pub settled_write : (d : Description) (base len off word : ℕ) → Settled d (write_after d base len off word)
settled_write d base len off word =
    settled d (denied d Write base len off) (set d.cells (base + off) word) (d.rules.shows Write base len off) (length-set d.cells (base + off) word)

pub settled_clear : (d : Description) → Settled d (cleared d)
settled_clear d = record { size = refl; rules = refl }
