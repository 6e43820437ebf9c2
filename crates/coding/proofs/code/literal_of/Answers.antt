-- `coding::code::literal_of` meets its contract. The number of the code's place, with the sign of the code.
use Rattle.coding.proofs.Decoded.{literal_none, literal_off, literal_on}
use Rattle.coding.proofs.code.literal_of.Goals as goal

pub returns-then-number : goal.returns-then-number
returns-then-number c = λ D l s ok e h. literal_none D l c.args.numbers.now s ok e h c.place_of-place.ensures c.cell_at-number.ensures c.if-number.true

pub returns-then-code-eq0 : goal.returns-then-code-eq0
returns-then-code-eq0 c = λ D l s ok e h. literal_off D l c.args.numbers.now s ok e h c.place_of-place.ensures c.cell_at-number.ensures c.if-number.false c.if-code-eq0.true

pub returns : goal.returns
returns c = λ D l s ok e h. literal_on D l c.args.numbers.now s ok e h c.place_of-place.ensures c.cell_at-number.ensures c.if-number.false c.if-code-eq0.false
