use Rattle.state.proofs.Codes.{Freed}
use Rattle.state.proofs.kinds.free_count.Given as goal

abbrev pub invariant-loop-i : goal.invariant-loop-i
invariant-loop-i l = Freed l.variables.numbers.now l.variables.levels.now l.variables.kinds.now l.count l.i
