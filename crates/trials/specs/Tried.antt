-- What reading leaves for a trial.
use Rattle.std.specs.Prelude.{◌≡◌, ℕ, List, Some, None, Ok, Err, Result}
use Rattle.program.specs.declared.program.Program.{Program}
use Rattle.program.specs.declared.refusal.Refusal.{Refusal}
use Rattle.header.specs.Layout.{header_at}
use Rattle.image.specs.Images.{read_refusal, image_of}
use Rattle.program.specs.Programs.{code_of}

pub record Taken (bs : List ℕ) (room : ℕ) (p : Program) : Type 0 where
  pub accepted : read_refusal bs room ≡ None
  pub header : p.header ≡ header_at bs
  pub bytes : image_of p.header (code_of p) ≡ bs

abbrev pub Tried : List ℕ → ℕ → Result Program Refusal → Type 0
Tried bs room (Ok p) = Taken bs room p
Tried bs room (Err e) = read_refusal bs room ≡ Some e
