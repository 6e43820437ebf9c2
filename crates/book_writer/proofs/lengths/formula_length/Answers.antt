-- `formula_length` meets its contract.
use native.Mathlib.Omega.{arith}
use Rattle.book_writer.specs.Tables.{formula_of}
use Rattle.booktext_laws.proofs.Room.{parts_length}
use Rattle.book_writer.proofs.lengths.formula_length.Goals as goal

pub returns : goal.returns
returns c = omega (arith, c.variables_length-lines.ensures.is, c.rules_length-rules.ensures.is, parts_length (formula_of c.args.variables.numbers.now c.args.variables.levels.now c.args.variables.kinds.now c.args.clauses.cells.now c.args.clauses.sizes.now))
