-- `open_run::walk` meets its contract: the empty node is stopped, decided or open.
use native.Mathlib.Omega.{arith}
use Rattle.open_search.proofs.Budgets.{fewer_as}
use Rattle.open_run.proofs.Walking.{walked_stopped, walked_no, walked_yes}
use Rattle.open_run.proofs.walk.Goals as goal

pub returns-then-spent : goal.returns-then-spent
returns-then-spent c = (fewer_as c.found.ensures (omega arith), walked_stopped c.found.result (omega (arith, c.if-spent.true)) c.found.ensures)

pub returns-in-No : goal.returns-in-No
returns-in-No c = (fewer_as c.found-in-No.ensures (omega (arith, c.counted.ensures)), walked_no c.at_empty-empty.ensures c.in-No.is c.found-in-No.result c.found-in-No.ensures c.counted.ensures)

pub returns-in-Yes : goal.returns-in-Yes
returns-in-Yes c = (fewer_as c.found-in-Yes.ensures (omega (arith, c.counted-in-Yes.ensures)), walked_yes c.at_empty-empty.ensures c.in-Yes.is c.found-in-Yes.result c.found-in-Yes.ensures c.counted-in-Yes.ensures)
