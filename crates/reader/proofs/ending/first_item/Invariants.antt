-- `first_item` meets its contract: no word passed is the item's.
use Rattle.reader.specs.Pieces.{size_left}
use Rattle.reader.proofs.Endings.{Scanned}
use Rattle.reader.proofs.ending.first_item.Given as goal

abbrev pub invariant-loop-left : goal.invariant-loop-left
invariant-loop-left l = Scanned l.word l.s l.left

abbrev pub decreases-loop-left : goal.decreases-loop-left
decreases-loop-left l = size_left l.left
