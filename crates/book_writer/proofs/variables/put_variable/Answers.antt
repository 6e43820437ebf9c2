-- `put_variable` meets its contract: three texts one after the other.
use Rattle.state.specs.Reading.{quantifier_of}
use Rattle.writer.proofs.Appending.{appended_then}
use Rattle.book_writer.proofs.Places.{variable_parts}
use Rattle.book_writer.proofs.variables.put_variable.Goals as goal

pub returns : goal.returns
returns c = rw (variable_parts (quantifier_of c.args.line) (quantifier_of c.args.kind) c.args.n) (appended_then c.put_heading.ensures (appended_then c.put_word.ensures c.put_number.ensures))
