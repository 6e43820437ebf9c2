-- `kinds_of` meets its contract. The numbers of the first places have their quantifiers.
use Rattle.state.proofs.Codes.{Coded}
use Rattle.state.proofs.kinds.kinds_of.Given as goal

abbrev pub invariant-loop-i : goal.invariant-loop-i
invariant-loop-i l = Coded l.variables.numbers.now l.variables.levels.now l.variables.kinds.now l.fn.table l.table l.count l.i
