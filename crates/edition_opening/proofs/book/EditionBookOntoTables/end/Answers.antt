-- A book of either edition ends as one of the first.
use Rattle.edition_opening.proofs.Turns.{ended_at}
use Rattle.edition_opening.proofs.book.EditionBookOntoTables.end.Goals as goal

pub returns : goal.returns
returns c cells literals s = ended_at c.args.self cells literals c.end.result (c.end.ensures cells literals s)
