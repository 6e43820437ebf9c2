-- `named::named`: the literals looked at, and the numbers of the sign among them.
use Rattle.named.proofs.Gathering.{Naming}
use Rattle.named.proofs.named.Given as goal

abbrev pub invariant-loop-l : goal.invariant-loop-l
invariant-loop-l l = Naming l.on l.lits l.initial.out l.out l.n l.l-index
