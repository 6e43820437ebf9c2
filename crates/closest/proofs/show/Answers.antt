-- `closest::show` meets its contract. The values passed are as they are shown, and the others as they were.
use Rattle.std.proofs.Common.{◌∙◌}
use Rattle.closest.proofs.Bytes.{shown, shown_all, changed_none, changed_more, changed_all}
use Rattle.closest.proofs.show.Goals as goal

pub loop-value-init : goal.loop-value-init
loop-value-init c = changed_none shown c.args.values.now

pub loop-value-preserved : goal.loop-value-preserved
loop-value-preserved c = changed_more shown c.args.values.now c.loop-value.value-index c.shown.result c.loop-value.values c.loop-value-test.true c.loop-value.invariant c.shown.ensures

pub returns : goal.returns
returns c = changed_all shown c.args.values.now c.loop-value.value-index c.loop-value.values c.loop-value-test.false c.loop-value.invariant ∙ shown_all c.args.values.now
