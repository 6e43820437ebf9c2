-- `read_literals`: by what is left of the line.
use Rattle.reader.specs.Pieces.{size_left}
use Rattle.qdimacs_reader.proofs.Literals.{Gathering}
use Rattle.qdimacs_reader.proofs.items.read_literals.Given as goal

abbrev pub invariant-loop-next : goal.invariant-loop-next
invariant-loop-next l = Gathering l.signed l.left l.initial.out l.out l.n l.item

abbrev pub decreases-loop-next : goal.decreases-loop-next
decreases-loop-next l = size_left l.item.left
