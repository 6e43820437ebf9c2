use Rattle.state.proofs.Codes.{freed_more}
use Rattle.state.proofs.kinds.free_count.Goals as goal

pub loop-i-preserved : goal.loop-i-preserved
loop-i-preserved c = freed_more c.loop-i.invariant c.loop-i-test.true c.kind_at.ensures c.if-kind_at-ne-FREE.false
