-- `read_text`: what is left of the text opens what the whole does.
use Rattle.opening.proofs.Reading.{Rest}
use Rattle.qdimacs_opening.specs.Stands.{problem_stands}
use Rattle.qdimacs_opening.specs.Lines.{problem_opens}
use Rattle.qdimacs_opening.proofs.text.read_text.Given as goal

abbrev pub invariant-loop-line : goal.invariant-loop-line
invariant-loop-line l = Rest problem_stands problem_opens l.fn.start l.initial.cells l.initial.literals l.text l.read l.cells l.literals l.number l.line-iterator.rest.now
