-- `variable_length` meets its contract: its heading, a space and its number.
use Rattle.book_writer.proofs.Digits.{counted_variable}
use Rattle.book_writer.proofs.lengths.variable_length.Goals as goal

pub returns : goal.returns
returns c = counted_variable _ _ c.args.n c.heading_length.ensures c.digits.ensures
