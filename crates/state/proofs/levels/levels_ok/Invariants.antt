use Rattle.state.proofs.Steps.{Stepping}
use Rattle.state.proofs.levels.levels_ok.Given as goal

abbrev pub invariant-loop-i : goal.invariant-loop-i
invariant-loop-i l = Stepping l.limit l.variables.numbers.now l.variables.levels.now l.variables.kinds.now l.count l.level l.beside l.i
