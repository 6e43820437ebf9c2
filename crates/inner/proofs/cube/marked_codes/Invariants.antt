-- After i places the area holds the true literals of those that are marked.
use Rattle.inner.proofs.Gathering.{Gathered}
use Rattle.inner.proofs.cube.marked_codes.Given as goal

abbrev pub invariant-loop-i : goal.invariant-loop-i
invariant-loop-i l = Gathered l.marks l.statuses l.at l.n l.i l.up
