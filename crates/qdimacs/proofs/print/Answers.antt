-- `print` meets its contract: the tables that it is lent are of the programs' sizes.
use native.Mathlib.Omega.{arith}
use Rattle.qdimacs_printer.proofs.Ample.{qdimacs_ample}
use Rattle.qdimacs.proofs.print.Goals as goal

pub returns : goal.returns
returns c = qdimacs_ample c.args.limits.numbers c.args.limits.clauses c.args.cells.now c.args.literals.now (omega arith) (omega arith) c.args.text.now c.print_book.ensures
