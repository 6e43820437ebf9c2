-- `kinds_of` meets its contract.
use native.Mathlib.Omega.{arith}
use Rattle.state.proofs.Codes.{coded_none, coded_more, coded_end}
use Rattle.state.proofs.kinds.kinds_of.Goals as goal

pub loop-i-init : goal.loop-i-init
loop-i-init c = coded_none c.count-count.ensures c.clear.ensures

pub loop-i-preserved : goal.loop-i-preserved
loop-i-preserved c = rw c.put.ensures (coded_more c.loop-i.invariant c.loop-i-test.true c.entry-n.ensures c.kind_at-kind.ensures)

pub returns : goal.returns
returns c = coded_end c.loop-i.invariant (omega (arith, c.loop-i-test.false))
