-- `reading::placed::by_place`: the first i places have their values.
use Rattle.reading.proofs.Placing.{Placing}
use Rattle.reading.proofs.placed.by_place.Given as goal

abbrev pub invariant-loop-i : goal.invariant-loop-i
invariant-loop-i l = Placing l.values l.numbers l.initial.recorded l.free l.recorded l.i
