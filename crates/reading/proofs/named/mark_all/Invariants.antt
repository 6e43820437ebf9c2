-- `reading::named::mark_all`: what is left of the literals is judged as the whole was.
use Rattle.reading.proofs.Marking.{Marking}
use Rattle.reading.proofs.named.mark_all.Given as goal

abbrev pub invariant-loop-lit : goal.invariant-loop-lit
invariant-loop-lit l = Marking l.flags.places.now l.flags.free l.value l.initial.values l.literals l.values l.lit-index
