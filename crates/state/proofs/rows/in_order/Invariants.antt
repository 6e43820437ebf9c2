use Rattle.state.proofs.Order.{Ordering}
use Rattle.state.proofs.rows.in_order.Given as goal

abbrev pub invariant-loop-lit : goal.invariant-loop-lit
invariant-loop-lit l = Ordering l.places l.lits l.last l.lit-index
