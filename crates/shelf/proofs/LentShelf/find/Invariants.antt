-- The oldest match: what was found is the first match among the rows passed, and the number is that of the newest row before them that ends in
-- the code. The measure is the number.
use Rattle.shelf.proofs.Finding.{Finding}
use Rattle.shelf.proofs.LentShelf.find.Given as goal

abbrev pub invariant-loop-number : goal.invariant-loop-number
invariant-loop-number l = Finding l.self.stride l.self.slots l.self.cells.now l.self.links.now l.statuses l.code l.want l.word l.base l.number l.found

abbrev pub decreases-loop-number : goal.decreases-loop-number
decreases-loop-number l = l.number
