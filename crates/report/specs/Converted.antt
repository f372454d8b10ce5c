-- What converting comes to, as text.
use Rattle.std.specs.Prelude.{ℕ, Bool, true, false, List, ◌++◌, codes, decimal}
use Rattle.program.specs.declared.refusal.Refusal.{Refusal}
use Rattle.program.specs.Wording.{reason_text, refusal_text}

abbrev pub memory_name : Bool → List ℕ
memory_name true = codes "a full scan"
memory_name false = codes "flat"

-- how many instructions, steps and marks, for a memory that hides or not
abbrev pub counts_text : Bool → ℕ → ℕ → ℕ → List ℕ
counts_text hides instructions steps marks =
    codes "converted for " ++ (memory_name hides ++ (codes ": instructions " ++ (decimal instructions ++ (codes ", most steps " ++ (decimal steps ++ (codes ", most marks " ++ decimal marks))))))

abbrev pub refused_text : Bool → Refusal → List ℕ
refused_text hides e = codes "converted for " ++ (memory_name hides ++ (codes ": " ++ (refusal_text e ++ (codes ": " ++ reason_text e.reason))))

abbrev pub written_text : ℕ → List ℕ
written_text long = codes "converted image written: " ++ (decimal long ++ codes " bytes")
