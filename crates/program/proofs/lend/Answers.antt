-- `lend` meets its contract: the tables that it is lent are of the programs' sizes.
use native.Mathlib.Omega.{arith}
use Rattle.lent_texts.proofs.Ample.{ample}
use Rattle.program.proofs.lend.Goals as goal

pub returns : goal.returns
returns g c = ample c.args.limits.numbers c.args.limits.clauses c.args.cells.now c.args.literals.now (omega arith) (omega arith)
