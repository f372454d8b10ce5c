-- The laws of a layer that is chosen at run time.
use Rattle.std.specs.Prelude.{◌≡◌, min, length, refl, Option, Some, None}
use Rattle.std.proofs.Common.{sym}
use Rattle.memory.specs.Description.{Description, free, cleared}
use Rattle.memory.specs.Laws.{Lawful}
use Rattle.full_scan.specs.Costs.{scan_lawful}
use Rattle.line.specs.Lines.{line_lawful, line_free, line_counted}
use Rattle.layered.specs.declared.chosen.Chosen.{Chosen}
use Rattle.layered.specs.declared.chosen.Chosen.TheVariants.{Scan, Line}
use Rattle.layered.specs.Layers.{over_chosen, over}

pub chosen_lawful : (l : Chosen) (d : Description) → Lawful d → Lawful (over_chosen l d)
chosen_lawful Scan d laws = scan_lawful d laws
chosen_lawful (Line exponent) d laws = line_lawful (min exponent 6) d laws

-- a layer that is chosen, or none, keeps the laws
pub over_lawful : (o : Option Chosen) (d : Description) → Lawful d → Lawful (over o d)
over_lawful None d laws = laws
over_lawful (Some l) d laws = chosen_lawful l d laws

pub chosen_sized : (l : Chosen) (d : Description) → length (over_chosen l d).cells ≡ length d.cells
chosen_sized Scan d = refl
chosen_sized (Line exponent) d = refl

pub chosen_freed : (l : Chosen) (d : Description) → free (over_chosen l d) ≡ free d
chosen_freed Scan d = refl
chosen_freed (Line exponent) d = sym (line_free (min exponent 6) d)

pub chosen_counted : (l : Chosen) (d : Description) → length (over_chosen l d).seen ≡ length d.seen
chosen_counted Scan d = refl
chosen_counted (Line exponent) d = line_counted (min exponent 6) d

pub chosen_clears : (l : Chosen) (d : Description) → over_chosen l (cleared d) ≡ cleared (over_chosen l d)
chosen_clears Scan d = refl
chosen_clears (Line exponent) d = refl
