-- `step` meets its contract: the row above united with the clauses that the value satisfies, and the place's mark.
use native.Mathlib.Omega.{arith}
use Rattle.loading_start.proofs.Starting.{descended_more}
use Rattle.loading_start.proofs.step.Goals as goal

pub returns : goal.returns
returns c = λ D R s at shown low known. descended_more shown c.requires low c.true_at.ensures.1 known c.row_down-step.ensures c.mark.ensures.0 (omega (arith, c.mark.ensures.1, c.args.here.within))
