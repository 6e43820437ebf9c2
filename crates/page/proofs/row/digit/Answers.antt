-- `page::row::digit` meets its contract. By the test.
use borrow.Author.Tests.{eq-eqb, ne_eqb}
use Rattle.page.specs.Columns.{digit}
use Rattle.page.proofs.row.digit.Goals as goal

pub returns-then-q-eq0 : goal.returns-then-q-eq0
unfolding digit
returns-then-q-eq0 c = simp (eq-eqb _ _ c.if-q-eq0.true)

pub returns-else-q-eq0 : goal.returns-else-q-eq0
unfolding digit
returns-else-q-eq0 c = simp (ne_eqb _ _ c.if-q-eq0.false)
