-- `mark_up_to` meets its contract: the numbers between the mark and the code are cleared, or the mark is above the code.
use native.Mathlib.Omega.{arith}
use Rattle.shelf.proofs.Marking.{marked_up, marked_before}
use Rattle.shelf.proofs.store.mark_up_to.Goals as goal

pub returns-then-marked-code : goal.returns-then-marked-code
returns-then-marked-code c = marked_up c.args.links.now c.clear_part.new.links c.args.code c.requires.1 c.requires.0 (omega arith) c.clear_part.ensures

pub returns-else-marked-code : goal.returns-else-marked-code
returns-else-marked-code c = marked_before c.args.links.now c.args.code (omega arith)
