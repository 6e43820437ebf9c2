use Rattle.state.proofs.Fresh.{filling_end, Tested, tested_bad, tested_more}
use mathlib.Core.Bool.{not}
use mathlib.Core.Path.{ap}
use Rattle.state.proofs.numbers.place_numbers.Goals as goal

pub returns-then-not-is_fresh : goal.returns-then-not-is_fresh
returns-then-not-is_fresh c = let tested : Tested c.args.limit c.args.numbers.now c.count-count.result c.loop-i.places c.loop-i.i c.entry-n.result c.is_fresh.result = record { filling = c.loop-i.invariant; more = c.loop-i-test.true; is = c.entry-n.ensures; said = c.is_fresh.ensures } in
    (c.loop-i.invariant.filled.room, tested_bad (tested) (ap not c.if-not-is_fresh.true))

pub loop-i-preserved : goal.loop-i-preserved
loop-i-preserved c = let tested : Tested c.args.limit c.args.numbers.now c.count-count.result c.loop-i.places c.loop-i.i c.entry-n.result c.is_fresh.result = record { filling = c.loop-i.invariant; more = c.loop-i-test.true; is = c.entry-n.ensures; said = c.is_fresh.ensures } in
    tested_more (tested) (ap not c.if-not-is_fresh.false)

pub returns : goal.returns
returns c = (c.loop-i.invariant.filled.room, filling_end c.loop-i.invariant c.loop-i-test.false)
