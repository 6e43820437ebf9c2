-- `Shelf::empty` meets its contract: nothing is linked, and no row stands.
use Rattle.std.proofs.Common.{arith}
use Rattle.qbf.specs.Formula.{paper, highest}
use Rattle.shelf.proofs.Masking.{masked_none}
use Rattle.shelf.proofs.Empty.{empty_shelf, empty_rows}
use Rattle.shelf.proofs.Shelf.empty.Goals as goal

pub invariant_of-result : goal.invariant_of-result
invariant_of-result c = record { agree = empty_shelf highest.numbers paper.constraints c.args.cells.now c.clear_marks.new.links (omega arith) (omega arith) c.clear_marks.ensures.0 c.clear_marks.ensures.1; masked = masked_none highest.numbers paper.constraints c.args.cells.now }

pub returns : goal.returns
returns c = (
  c.clear_marks.ensures.0,
  empty_rows highest.numbers paper.constraints c.args.cells.now c.clear_marks.new.links (omega arith) (omega arith) c.clear_marks.ensures.0 c.clear_marks.ensures.1,
)
