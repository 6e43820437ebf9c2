-- `out_of_range`: 0, or above the last.
use borrow.Author.Tests.{eq-eqb, ne_eqb}
use Rattle.edition_opening.specs.Lines.{out_of_range}
use Rattle.edition_opening.proofs.rule.out_of_range.Goals as goal

pub returns-then-tag-eq0 : goal.returns-then-tag-eq0
unfolding out_of_range
returns-then-tag-eq0 c = rw (eq-eqb c.args.tag 0 c.if-tag-eq0.true)

pub returns-else-tag-eq0 : goal.returns-else-tag-eq0
unfolding out_of_range
returns-else-tag-eq0 c = rw (ne_eqb c.args.tag 0 c.if-tag-eq0.false)
