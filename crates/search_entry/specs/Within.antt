-- That a part lies within its table.
use Prim.Native.Nat.{zero-le}
use Rattle.std.specs.Prelude.{ℕ, suc, ◌+◌, ◌*◌, ◌≤◌}
use Rattle.qbf.specs.Formula.{paper, highest}
use Rattle.tables.specs.Matrices.{clause_row}
use Rattle.search_entry.specs.declared.Source.{Source}
use Rattle.search_entry.specs.declared.Source.TheVariants.{Clauses, Learned, Area}

-- how many cells each table has
abbrev pub size_of : Source → ℕ
size_of Clauses = highest.clauses * clause_row
size_of Learned = paper.constraints * suc highest.numbers
size_of Area = highest.numbers + highest.numbers

-- a part lies within its table, and is no longer than a constraint
pub record Bounded (source : Source) (start len : ℕ) : Type 0 where
  pub short : len ≤ highest.numbers
  pub inside : start + len ≤ size_of source

-- the part of the area that has no codes
pub nowhere : Bounded Area 0 0
nowhere = record { short = zero-le; inside = zero-le }
