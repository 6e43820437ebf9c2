-- `is_declared`: a place has the number, or none has.
use native.Mathlib.Omega.{arith}
use mathlib.Core.Path.{sym, ◌∙◌}
use Rattle.declaring.proofs.Faults.{unseen_more, unseen_none, seen_here}
use Rattle.declaring.proofs.fault.is_declared.Goals as goal

pub returns-then-entry-number : goal.returns-then-entry-number
returns-then-entry-number c L D s ok = seen_here s L ok c.count-count.ensures c.loop-i-test.true (sym c.entry.ensures ∙ c.if-entry-number.true)

pub loop-i-preserved : goal.loop-i-preserved
loop-i-preserved c = unseen_more c.args.numbers.now c.args.number.0 c.loop-i.invariant (λ e. c.if-entry-number.false (c.entry.ensures ∙ e))

pub returns : goal.returns
returns c L D s ok = unseen_none s c.count-count.ensures (omega (arith, c.loop-i-test.false)) c.loop-i.invariant
