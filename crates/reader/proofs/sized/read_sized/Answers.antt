-- `read_sized` meets its contract: the words before the item, and the size that it gives.
use Rattle.reader.proofs.Ceilings.{whole_read, sized_read, none_sized, no_sized_call}
use Rattle.reader.proofs.sized.read_sized.Goals as goal

pub returns-in_err-ending : goal.returns-in_err-ending
returns-in_err-ending c = rw c.from_residual.ensures (no_sized_call c.args.s.now c.in_err-ending.ensures)

pub returns-in_err-line : goal.returns-in_err-line
returns-in_err-line c = rw c.from_residual-in_err-line.ensures (none_sized c.args.s.now c.in_ok-ending.ending c.in_ok-ending.ensures c.in_err-line.ensures)

pub returns-in-Some : goal.returns-in-Some
returns-in-Some c = sized_read c.args.s.now c.in_ok-ending.ending c.in_ok-ending.ensures c.in-Some.is c.in_ok-line.line c.read_words.new.out c.in_ok-line.ensures c.with_table.ensures

pub returns-in-None : goal.returns-in-None
returns-in-None c = whole_read c.args.s.now c.in_ok-ending.ending c.in_ok-ending.ensures c.in-None.is c.in_ok-line.line c.read_words.new.out c.in_ok-line.ensures
