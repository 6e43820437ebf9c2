-- `declare_all`: what is left of the literals declares what the whole would.
use Rattle.state_parts.specs.Layout.{limits_in}
use Rattle.opening.proofs.Growing.{LeftAt}
use Rattle.opening.proofs.block.declare_all.Given as goal

abbrev pub invariant-loop-lit : goal.invariant-loop-lit
invariant-loop-lit l = LeftAt (limits_in l.layout) l.initial.cells l.lits l.kind l.cells l.lit-index
