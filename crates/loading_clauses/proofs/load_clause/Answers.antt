-- `loading_clauses::load_clause` meets its contract: clause k is a part of the cells.
use mathlib.Core.Path.{refl}
use Rattle.loading_clauses.proofs.Coding.{filled}
use Rattle.loading_clauses.proofs.load_clause.Goals as goal

pub returns : goal.returns
returns c = (refl, filled c.args.k c.code_row.ensures.2 c.code_row.ensures.0 c.code_row.ensures.1 c.add_clause.ensures)
