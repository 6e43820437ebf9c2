-- `literal_length` meets its contract, of a negative literal and of another.
use Rattle.book_writer.proofs.Digits.{counted_off, counted_on}
use Rattle.book_writer.proofs.lengths.literal_length.Goals as goal

pub returns-then-lit-lt0 : goal.returns-then-lit-lt0
returns-then-lit-lt0 c = counted_off c.ranges.lit c.number_of-n.ensures c.digits-number.ensures c.if-lit-lt0.true

pub returns : goal.returns
returns c = counted_on c.ranges.lit c.number_of-n.ensures c.digits-number.ensures c.if-lit-lt0.false
