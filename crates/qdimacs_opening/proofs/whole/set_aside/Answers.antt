-- `set_aside`: the parts of the cells that were copied are those of the state.
use Rattle.state_parts.specs.Layout.{limits_in}
use Rattle.qdimacs_opening.proofs.Completing.{aside}
use Rattle.qdimacs_opening.proofs.whole.set_aside.Goals as goal

pub returns : goal.returns
returns c = aside (limits_in c.args.layout) c.args.cells.now c.clause_sizes_at-end.ensures c.copy_from_slice.ensures.after c.parts.result c.parts.ensures
