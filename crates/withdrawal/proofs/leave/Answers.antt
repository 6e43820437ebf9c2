-- `leave`: row after row.
use Prim.Native.Nat.{zero-le}
use native.Mathlib.Omega.{arith}
use Rattle.withdrawal.proofs.Kept.{keeping_none, keeping_movable, keeping_next, keeping_end}
use Rattle.withdrawal.proofs.leave.Goals as goal

pub loop-i-init : goal.loop-i-init
loop-i-init c = (zero-le, keeping_none c.requires.1)

pub keep_row-requires : goal.keep_row-requires
keep_row-requires c = keeping_movable c.requires.1 c.requires.0 c.loop-i.invariant.1 c.loop-i-test.true

pub loop-i-preserved : goal.loop-i-preserved
loop-i-preserved c = (omega (arith, c.loop-i-test.true), keeping_next c.requires.1 c.loop-i.invariant.1 c.loop-i-test.true c.keep_row.ensures)

pub returns : goal.returns
returns c = keeping_end c.requires.1 c.loop-i.invariant.1 (omega (arith, c.loop-i-test.false, c.loop-i.invariant.0))
