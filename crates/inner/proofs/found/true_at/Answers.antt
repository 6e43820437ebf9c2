-- `inner::found::true_at` meets its contract. The positive literal of a place is true where the place is on, else the negative one.
use native.Mathlib.Omega.{arith}
use Rattle.inner.proofs.Gathering.{true_on}
use Rattle.inner.proofs.found.true_at.Goals as goal

pub returns-then-statuses-code-eq-ON : goal.returns-then-statuses-code-eq-ON
returns-then-statuses-code-eq-ON c = (omega (arith, c.requires), λ s b shown value. true_on c.args.place s b shown value c.if-statuses-code-eq-ON.true)
