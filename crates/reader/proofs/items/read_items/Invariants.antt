-- `read_items` meets its contract: the loop has read the first literals, and keeps as many as the table holds.
use Rattle.reader.specs.Pieces.{size_left}
use Rattle.reader.proofs.Literals.{Reading}
use Rattle.reader.proofs.items.read_items.Given as goal

abbrev pub invariant-loop-left : goal.invariant-loop-left
invariant-loop-left l = Reading l.signed l.words l.initial.out l.out l.left l.n

abbrev pub decreases-loop-left : goal.decreases-loop-left
decreases-loop-left l = size_left l.left
