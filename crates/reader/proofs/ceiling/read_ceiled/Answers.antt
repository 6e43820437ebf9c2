-- `read_ceiled` meets its contract: the words before the ceiling's, and its number.
use Rattle.reader.proofs.Ceilings.{unlimited_read, limited_read, none_ceiled, no_ceiled_call}
use Rattle.reader.proofs.ceiling.read_ceiled.Goals as goal

pub returns-in_err-ending : goal.returns-in_err-ending
returns-in_err-ending c = rw c.from_residual.ensures (no_ceiled_call c.args.s.now c.in_err-ending.ensures)

pub returns-in_err-line : goal.returns-in_err-line
returns-in_err-line c = rw c.from_residual-in_err-line.ensures (none_ceiled c.args.s.now c.in_ok-ending.ending c.in_ok-ending.ensures c.in_err-line.ensures)

pub returns-in-Some : goal.returns-in-Some
returns-in-Some c = limited_read c.args.s.now c.in_ok-ending.ending c.in_ok-ending.ensures c.in-Some.is c.in_ok-line.line c.read_sized.new.out c.in_ok-line.ensures c.limited.ensures

pub returns-in-None : goal.returns-in-None
returns-in-None c = unlimited_read c.args.s.now c.in_ok-ending.ending c.in_ok-ending.ensures c.in-None.is c.in_ok-line.line c.read_sized.new.out c.in_ok-line.ensures c.unlimited.ensures
