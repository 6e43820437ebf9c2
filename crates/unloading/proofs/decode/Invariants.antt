-- After i turns the first i literals are written.
use Rattle.unloading.proofs.Unloading.{Decoding}
use Rattle.unloading.proofs.decode.Given as goal

abbrev pub invariant-loop-i : goal.invariant-loop-i
invariant-loop-i l = Decoding l.numbers l.row l.at l.initial.store l.i l.store
