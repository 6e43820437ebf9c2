-- `closest::line_distance` meets its contract. What is counted so far and what the places left come to is the distance.
use Rattle.std.proofs.Common.{◌≤◌, length}
use Rattle.closest.proofs.Bytes.{Passed}
use Rattle.closest.proofs.line_distance.Given as goal

abbrev pub invariant-loop-b : goal.invariant-loop-b
invariant-loop-b l = (l.n ≤ length l.yielded) × (length l.yielded ≤ length l.row) × Passed l.row l.given (length l.yielded) l.n
