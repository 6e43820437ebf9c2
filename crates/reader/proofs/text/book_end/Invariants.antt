-- `book_end` meets its contract: no line passed is `(end)`.
use lib.ListN.{length}
use Rattle.reader.proofs.Books.{Seeking}
use Rattle.reader.proofs.text.book_end.Given as goal

abbrev pub invariant-loop-next : goal.invariant-loop-next
invariant-loop-next l = Seeking l.text l.lines

abbrev pub decreases-loop-next : goal.decreases-loop-next
decreases-loop-next l = length l.lines
