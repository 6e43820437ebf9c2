-- `searching::run::run` meets its contract.
use native.Mathlib.Omega.{arith}
use Rattle.searching.proofs.Running.{start_stopped, start_no, start_yes, start_open}
use Rattle.searching.proofs.run.run.Goals as goal

pub returns-then-spent-clause-ran : goal.returns-then-spent-clause-ran
returns-then-spent-clause-ran c = start_stopped c.args.given c.args.task _ (omega (arith, c.if-spent.true)) c.decided.ensures

pub returns-in-No-clause-ran : goal.returns-in-No-clause-ran
returns-in-No-clause-ran c = start_no c.args.given c.args.task _ (omega (arith, c.if-spent.false)) c.conclude-start.result c.conclude-start.ensures c.in-No.is c.decided-in-No.ensures

pub returns-in-Yes-clause-ran : goal.returns-in-Yes-clause-ran
returns-in-Yes-clause-ran c = start_yes c.args.given c.args.task _ (omega (arith, c.if-spent.false)) c.conclude-start.result c.conclude-start.ensures c.in-Yes.is c.decided-in-Yes.ensures

pub returns-in-Open-clause-ran : goal.returns-in-Open-clause-ran
returns-in-Open-clause-ran c = start_open c.args.given c.args.task _ (omega (arith, c.if-spent.false)) c.conclude-start.result c.conclude-start.ensures c.in-Open.is c.opened.result _ c.opened.ensures.opened
