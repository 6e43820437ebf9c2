-- `leave`: after i turns those of the first i rows stand in front whose record is low enough, and the rows behind are as they were.
use Prim.Native.Nat.{◌≤◌}
use Rattle.withdrawal.proofs.Kept.{Keeping}
use Rattle.withdrawal.proofs.leave.Given as goal

abbrev pub invariant-loop-i : goal.invariant-loop-i
invariant-loop-i l = (l.i ≤ l.count) × Keeping l.width l.fn.cells l.fn.sizes l.remain l.i l.cells l.sizes
