-- `read_up_to` meets its contract: a number of 32 bits is no higher than the highest ceiling.
use Rattle.layout.specs.Endings.{number_up_to}
use Rattle.layout.specs.Words.{number_within}
use native.Mathlib.Omega.{arith}
use Rattle.reader.proofs.Digits.{up_none, up_at}
use Rattle.reader.proofs.number.read_up_to.Goals as goal

pub returns-in_err-n : goal.returns-in_err-n
unfolding number_up_to
returns-in_err-n c = rw c.from_residual.ensures (up_none (number_within c.args.limit.digits c.args.w.now) (omega arith) c.read_within.result c.read_within.ensures c.in_err-n.was)

pub returns : goal.returns
unfolding number_up_to
returns c = up_at (number_within c.args.limit.digits c.args.w.now) (omega arith) c.read_within.result c.read_within.ensures c.in_ok-n.was c.then_some.ensures
