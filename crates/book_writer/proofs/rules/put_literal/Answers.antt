-- `put_literal` meets its contract: it is written as an item of a card's line is.
use native.Mathlib.Omega.{arith}
use Rattle.book_writer.proofs.Rows.{literal_length, literal_wrote}
use Rattle.book_writer.proofs.rules.put_literal.Goals as goal

pub put_item-requires : goal.put_item-requires
put_item-requires c = omega (arith, literal_length c.ranges.lit c.number_of-n.ensures c.value_of-value.ensures)

pub returns : goal.returns
returns c = literal_wrote c.ranges.lit c.number_of-n.ensures c.value_of-value.ensures c.put_item.ensures
