-- `rules_length` meets its contract: the rules passed are counted.
use native.Mathlib.Omega.{arith}
use Rattle.book_writer.proofs.Parts.{counting_more, counting_end}
use Rattle.book_writer.proofs.Rows.{rules_next, rules_end}
use Rattle.book_writer.proofs.Digits.{counted_rule}
use Rattle.book_writer.proofs.lengths.rules_length.Goals as goal

pub loop-k-preserved : goal.loop-k-preserved
loop-k-preserved c =
    counting_more c.loop-k.invariant _ _ (rules_next c.args.clauses.cells.now c.args.clauses.sizes.now (omega (arith, c.loop-k-test.true, c.count-count.ensures.is)) c.clause.ensures.is) (counted_rule _ c.literals_length.ensures) (omega arith)

pub returns : goal.returns
returns c = counting_end c.loop-k.invariant (rules_end c.args.clauses.cells.now c.args.clauses.sizes.now c.loop-k.k (omega (arith, c.loop-k-test.false, c.count-count.ensures.is))) (omega (arith, c.count-count.ensures.few))
