-- `ended` meets its contract: the item's word, then its number.
use Rattle.reader.proofs.Endings.{no_number, item_given}
use Rattle.reader.proofs.ending.ended.Goals as goal

pub returns-in_err-n : goal.returns-in_err-n
returns-in_err-n c = rw c.from_residual.ensures (no_number _ _ c.in-Some.item _ c.in-Some.ensures c.in_err-n.ensures)

pub returns : goal.returns
returns c = item_given _ _ c.in-Some.item _ c.in-Some.ensures c.in_ok-n.ensures c.in_ok-item.was
