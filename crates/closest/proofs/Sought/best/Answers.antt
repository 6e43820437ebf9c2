-- `closest::Sought::best` meets its contract. From the last line to the first: the best of the lines passed is what the definition gives for them.
use Rattle.std.proofs.Common.{◌-◌, arith, length}
use Rattle.closest.specs.Table.{values_in}
use Rattle.closest.proofs.Search.{best_next}
use Rattle.closest.proofs.Sought.best.Goals as goal

pub loop-k-preserved : goal.loop-k-preserved
loop-k-preserved c =
    let s = c.args.self in
    best_next (length s.given.now) s.lines s.table.now (values_in s.given.now)
    (c.loop-k.k - 1) c.loop-k.k c.loop-k.best.line c.loop-k.best.number c.line_distance-n.result _ _ _ (omega arith) (omega arith)
    c.row.ensures.0 c.line_distance-n.ensures.0 c.line_distance-n.ensures.1 c.loop-k.invariant c.closer-best.ensures.0 c.closer-best.ensures.1
