-- `is_declared`: no place before has the number.
use Rattle.declaring.proofs.Faults.{Unseen}
use Rattle.declaring.proofs.fault.is_declared.Given as goal

abbrev pub invariant-loop-i : goal.invariant-loop-i
invariant-loop-i l = Unseen l.numbers l.number.0 l.i
