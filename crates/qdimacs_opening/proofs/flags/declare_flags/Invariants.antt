-- `declare_flags`: each turn judges one number more.
use Rattle.state_parts.specs.Layout.{limits_in}
use Rattle.qdimacs_opening.specs.Built.{Built, flags_as}
use Rattle.qdimacs_opening.proofs.flags.declare_flags.Given as goal

abbrev pub invariant-loop-i : goal.invariant-loop-i
invariant-loop-i l = Built (limits_in l.layout) l.initial.cells (flags_as l.kind l.places l.i) l.cells
