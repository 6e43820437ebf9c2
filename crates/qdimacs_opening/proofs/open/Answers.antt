-- `open`: what the text's lines build on the empty state, under the lesser of each limit and the highest.
use mathlib.Core.Path.{subst, ◌∙◌}
use Rattle.theory.proofs.Widths.{capped_ok}
use Rattle.layout.specs.Opening.{Opened}
use Rattle.opening.specs.Lines.{ReadAt}
use Rattle.opening.proofs.Preparing.{opened_so}
use Rattle.qdimacs_opening.proofs.Turns.{first_stands, first_opens}
use Rattle.qdimacs_opening.proofs.open.Goals as goal

pub read_text-read-requires : goal.read_text-read-requires
read_text-read-requires c = first_stands c.first.result (c.first.ensures.0, c.first.ensures.1, c.first.ensures.2, c.first.ensures.3) (c.first.ensures.4 ∙ c.in-Some.ensures.1) (capped_ok c.args.limits.numbers c.args.limits.clauses) c.prepare.new.cells c.args.literals.now c.in-Some.ensures.2

pub returns : goal.returns
returns c =
    opened_so c.read_text-read.result c.read_text-read.new.cells c.in-Some.ensures.0
    (subst (λ (o : Opened). ReadAt o c.read_text-read.result c.read_text-read.new.cells c.read_text-read.new.literals)
    (first_opens c.first.result (c.first.ensures.0, c.first.ensures.1, c.first.ensures.2, c.first.ensures.3) (c.first.ensures.4 ∙ c.in-Some.ensures.1) (capped_ok c.args.limits.numbers c.args.limits.clauses) c.prepare.new.cells c.args.literals.now c.in-Some.ensures.2 c.args.text.now)
    c.read_text-read.ensures)
    c.closed.ensures.left c.closed.ensures.same
