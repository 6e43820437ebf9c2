-- `first_row` meets its contract: after the turn for i the row has the numbers from that of the clauses up to i.
use native.Mathlib.Omega.{arith}
use Rattle.bitset.proofs.Parts.{cleared_first}
use Rattle.loading_start.proofs.Starting.{row_none}
use Rattle.loading_start.proofs.first_row.Goals as goal

pub loop-i-init : goal.loop-i-init
loop-i-init c = row_none (cleared_first c.args.words c.args.sat.now c.clear.new.row (omega arith) c.clear.ensures)
