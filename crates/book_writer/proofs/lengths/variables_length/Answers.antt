-- `variables_length` meets its contract: the places passed are counted, and the line of the last one stands open.
use native.Mathlib.Omega.{arith}
use Rattle.book_writer.proofs.Parts.{counting_more, counting_last}
use Rattle.book_writer.proofs.Places.{places_next, places_end}
use Rattle.book_writer.proofs.lengths.variables_length.Goals as goal

pub loop-i-preserved : goal.loop-i-preserved
loop-i-preserved c = let Cell-at = c.cell_at-count in
    let loop-test = c.loop-i-test in
    counting_more c.loop-i.invariant _ _ (places_next c.args.variables.numbers.now c.args.variables.levels.now c.args.variables.kinds.now _ (omega (arith, loop-test.true, Cell-at.ensures)) c.kind_at-kind.ensures c.cell_at-n.ensures) c.variable_length-bytes.ensures (omega arith)

pub returns : goal.returns
returns c = counting_last c.loop-i.invariant (places_end c.args.variables.numbers.now c.args.variables.levels.now c.args.variables.kinds.now _ (omega (arith, c.loop-i-test.false, c.cell_at-count.ensures))) (omega (arith))
