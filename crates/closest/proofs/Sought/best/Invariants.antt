-- `closest::Sought::best` meets its contract. From the last line to the first: the best of the lines passed is what the definition gives for them.
use lib.ListN.{length}
use Rattle.closest.specs.Table.{values_in, SoFar}
use Rattle.closest.proofs.Sought.best.Given as goal

abbrev pub invariant-loop-k : goal.invariant-loop-k
invariant-loop-k l = SoFar (length l.self.given.now) l.self.lines l.self.table.now (values_in l.self.given.now) l.k l.best.line l.best.number
