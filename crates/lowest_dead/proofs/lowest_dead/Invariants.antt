-- `lowest_dead::lowest_dead` meets its contract: `best` is the lowest dead clause before `from`.
use Rattle.std.proofs.Common.{◌-◌, get_or}
use Rattle.lowest_dead.proofs.Lowering.{Lowering}
use Rattle.lowest_dead.proofs.lowest_dead.Given as goal

abbrev pub invariant-loop-k : goal.invariant-loop-k
invariant-loop-k l = Lowering l.clauses.width l.clauses.cells.now l.clauses.sizes.now l.shown.places.now l.shown.kinds.now l.shown.values.now l.best l.from

abbrev pub decreases-loop-k : goal.decreases-loop-k
decreases-loop-k l = get_or l.clauses.sizes.now 0 0 - l.from
