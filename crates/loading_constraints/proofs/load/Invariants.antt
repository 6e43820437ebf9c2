-- After k turns the first k rows stand on the shelf.
use Rattle.loading_constraints.proofs.Loading.{Loaded}
use Rattle.loading_constraints.proofs.load.Given as goal

abbrev pub invariant-loop-k : goal.invariant-loop-k
invariant-loop-k l = Loaded l.table.width l.table.cells.now l.table.sizes.now l.places l.k l.shelf.cells.now l.shelf.links.now
