-- The clauses that the tables hold.
use Rattle.std.specs.Prelude.{List, ℕ, ℤ}
use Rattle.qbf.specs.Formula.{paper, Clause}
use Rattle.tables.specs.Views.{rows_of}

abbrev pub clauses_of : List ℤ → List ℕ → List Clause
clauses_of cells sizes = rows_of paper.literals cells sizes
