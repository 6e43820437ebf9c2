-- `run` meets its contract: the tables that it is lent are of the programs' sizes.
use native.Mathlib.Omega.{arith}
use Rattle.lent_texts.proofs.Ample.{ample}
use Rattle.session.proofs.run.Goals as goal

pub returns-after-loop : goal.returns-after-loop
returns-after-loop g c = ample c.args.limits.numbers c.args.limits.clauses c.args.cells.now c.args.literals.now (omega arith) (omega arith)

pub returns-then-matches : goal.returns-then-matches
returns-then-matches g c = ample c.args.limits.numbers c.args.limits.clauses c.args.cells.now c.args.literals.now (omega arith) (omega arith)

pub returns-in_err-write_all : goal.returns-in_err-write_all
returns-in_err-write_all g c = ample c.args.limits.numbers c.args.limits.clauses c.args.cells.now c.args.literals.now (omega arith) (omega arith)
