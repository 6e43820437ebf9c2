-- `page::row::sign` meets its contract. By the tests.
use borrow.Author.Tests.{eq-eqb, ne_eqb}
use Rattle.layout.specs.Page.{sign_of}
use Rattle.page.proofs.row.sign.Goals as goal

pub returns-then-b-eq-OPEN : goal.returns-then-b-eq-OPEN
unfolding sign_of
returns-then-b-eq-OPEN c = simp (eq-eqb _ _ c.if-b-eq-OPEN.true)

pub returns-then-b-eq-OFF : goal.returns-then-b-eq-OFF
unfolding sign_of
returns-then-b-eq-OFF c = simp (ne_eqb _ _ c.if-b-eq-OPEN.false, eq-eqb _ _ c.if-b-eq-OFF.true)

pub returns-else-b-eq-OFF : goal.returns-else-b-eq-OFF
unfolding sign_of
returns-else-b-eq-OFF c = simp (ne_eqb _ _ c.if-b-eq-OPEN.false, ne_eqb _ _ c.if-b-eq-OFF.false)
