-- `inner::step_down::step_down` meets its contract. The node's row is its parent's united with the clauses that the value satisfies.
use native.Mathlib.Omega.{arith}
use Rattle.inner.proofs.Stepping.{step_kept, stepped}
use Rattle.inner.proofs.step_down.step_down.Goals as goal

pub returns : goal.returns
returns c = record { rows_kept = step_kept c.row_down-step.ensures _ c.mark.ensures.0; descended = λ D R s k given shown entered. stepped given shown entered c.row_down-step.ensures c.mark.ensures.0 (omega (arith, c.mark.ensures.1, c.args.g.inside.within)) }
