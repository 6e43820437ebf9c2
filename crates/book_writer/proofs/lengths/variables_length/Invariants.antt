-- `variables_length` meets its contract: the places passed are counted, and the line of the last one stands open.
use Prim.Native.Nat.{◌*◌}
use Rattle.qbf.specs.Formula.{free}
use Rattle.state.specs.Reading.{quantifier_of, prefix_of}
use Rattle.booktext.specs.Books.{rest_text}
use Rattle.book_writer.specs.Tables.{most_variable}
use Rattle.book_writer.proofs.Parts.{Counting}
use Rattle.book_writer.proofs.Places.{places_from}
use Rattle.book_writer.proofs.lengths.variables_length.Given as goal

abbrev pub invariant-loop-i : goal.invariant-loop-i
invariant-loop-i l = Counting (rest_text free (prefix_of l.numbers l.levels l.kinds)) (rest_text (quantifier_of l.line) (places_from l.numbers l.levels l.kinds l.i)) (l.i * most_variable) l.bytes
