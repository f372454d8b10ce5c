-- How a leaf begins.
use Rattle.std.specs.Prelude.{ℕ, ◌-◌, List, ◌++◌, length, take, replicate}
use Rattle.memory.specs.Description.{Description}
use Rattle.leaf.specs.Leaves.{leaf}
use Rattle.flat.specs.Flat.{flat}
use Rattle.banked.specs.Banks.{row_of}
use Rattle.makes.specs.declared.make.LeafKind.{LeafKind}
use Rattle.makes.specs.declared.make.LeafKind.TheVariants.{Flat, Banked}

-- so many cells, with zeros behind those that are given
abbrev pub filled : ℕ → List ℕ → List ℕ
filled size cells = take size cells ++ replicate (size - length cells) 0

-- with so many cells, a list for the marks of this length, and these cells given
abbrev pub begins : LeafKind → ℕ → ℕ → List ℕ → Description
begins Flat size list cells = flat (filled size cells) (replicate list 0) 0
begins Banked size list cells = leaf row_of (replicate 1024 0) (replicate list 0) 0
