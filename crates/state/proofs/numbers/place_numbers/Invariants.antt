use Rattle.state.proofs.Fresh.{Filling}
use Rattle.state.proofs.numbers.place_numbers.Given as goal

abbrev pub invariant-loop-i : goal.invariant-loop-i
invariant-loop-i l = Filling l.limit l.numbers l.count l.places l.i
