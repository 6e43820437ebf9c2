-- A book takes lines up to the end's.
use Rattle.edition_opening.proofs.Turns.{told_takes}
use Rattle.edition_opening.proofs.book.EditionBookOntoTables.take.Goals as goal

pub returns : goal.returns
returns c = told_takes c.args.self c.args.cells.now c.args.literals.now c.eq.ensures c.if-eq.false c.args.line.now c.take_line.result c.take_line.new.cells c.take_line.new.literals c.take_line.ensures
