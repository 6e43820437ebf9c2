-- `inner::found::last_in` meets its contract. In a cube the literal holds, in a clause it fails.
use Rattle.inner.proofs.Lookups.{fails_in}
use Rattle.inner.proofs.found.last_in.Goals as goal

pub returns : goal.returns
returns c = (c.opposite.ensures.low, λ p b is. fails_in p b c.args.cube c.if-cube.false (c.opposite.ensures.there p b is))
