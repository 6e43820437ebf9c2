-- `next_word`: by what is left of the line.
use Rattle.reader.specs.Pieces.{size_left}
use Rattle.qdimacs_reader.proofs.Words.{Passed}
use Rattle.qdimacs_reader.proofs.word.next_word.Given as goal

abbrev pub invariant-loop-left : goal.invariant-loop-left
invariant-loop-left l = Passed l.line l.left

abbrev pub decreases-loop-left : goal.decreases-loop-left
decreases-loop-left l = size_left l.left
