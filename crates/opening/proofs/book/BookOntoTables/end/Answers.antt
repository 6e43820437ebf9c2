-- A book ends after the end's line.
use Rattle.opening.proofs.Turns.{told_going, told_ends}
use Rattle.opening.proofs.book.BookOntoTables.end.Goals as goal

pub returns-then-ne : goal.returns-then-ne
returns-then-ne c cells literals s = told_going c.args.self cells literals c.ne.ensures c.if-ne.true

pub returns : goal.returns
returns c cells literals s = told_ends c.args.self cells literals c.ne.ensures c.if-ne.false s
