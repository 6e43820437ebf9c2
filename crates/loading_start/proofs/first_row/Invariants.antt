-- After the turn for i the row has the numbers from that of the clauses up to i.
use Rattle.loading_start.proofs.Starting.{RowUpTo}
use Rattle.loading_start.proofs.first_row.Given as goal

abbrev pub invariant-loop-i : goal.invariant-loop-i
invariant-loop-i l = RowUpTo l.count l.words l.i l.initial.sat l.sat
