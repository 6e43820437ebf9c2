-- `put_variables` writes one place after the other, and the line of the last one stands open.
use Rattle.qbf.specs.Formula.{free}
use Rattle.state.specs.Reading.{quantifier_of, prefix_of}
use Rattle.booktext.specs.Books.{rest_text}
use Rattle.writer.proofs.Appending.{Left}
use Rattle.book_writer.proofs.Places.{places_from}
use Rattle.book_writer.proofs.variables.put_variables.Given as goal

abbrev pub invariant-loop-i : goal.invariant-loop-i
invariant-loop-i l = Left l.initial.out (rest_text free (prefix_of l.numbers l.levels l.kinds)) (rest_text (quantifier_of l.line) (places_from l.numbers l.levels l.kinds l.i)) l.out
