-- What the rows of a flat table must be: clauses, or learned constraints.
use Rattle.std.specs.Prelude.{ℕ, Bool, true, false, ◌&&◌, List, ℤ}
use Rattle.qbf.specs.Formula.{paper, Literal, Prefix, all}
use Rattle.qbf.specs.Calls.{clause_ok, constraint_ok}
use Rattle.tables.specs.Views.{rows_of}
use Rattle.state.specs.declared.rows.Holding.{Holding}
use Rattle.state.specs.declared.rows.Holding.TheVariants as holding
use Rattle.state.specs.Reading.{rows_fit}

abbrev pub row_is_ok : Holding → Prefix → List Literal → Bool
row_is_ok holding.Clauses D ls = clause_ok paper D ls
row_is_ok holding.LearnedClauses D ls = constraint_ok D false ls
row_is_ok holding.LearnedCubes D ls = constraint_ok D true ls

-- rows of w cells, of which there may be `most`: `clauses_fine` and `constraints_fine` of what stands in them
abbrev pub table_is_ok : ℕ → ℕ → Holding → Prefix → List ℤ → List ℕ → Bool
table_is_ok w most h D flat sizes = rows_fit w most sizes && all (row_is_ok h D) (rows_of w flat sizes)
