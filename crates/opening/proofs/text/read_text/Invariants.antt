-- `read_text`: what is left of the text opens what the whole does.
use Rattle.opening.proofs.Reading.{Rest}
use Rattle.opening.proofs.text.read_text.Given as goal

abbrev pub invariant-loop-line : goal.invariant-loop-line
invariant-loop-line g l = Rest g.R.OntoTables.stands g.R.OntoTables.opens l.fn.start l.initial.cells l.initial.literals l.text l.read l.cells l.literals l.number l.line-iterator.rest.now
