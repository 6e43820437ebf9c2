-- `put_rules` writes one rule after the other.
use native.Mathlib.Omega.{arith}
use Rattle.writer.proofs.Appending.{left_room, left_more, left_none, left_as}
use Rattle.book_writer.proofs.Rows.{rules_next, rules_end}
use Rattle.book_writer.proofs.rules.put_rules.Goals as goal

pub put_rule-requires : goal.put_rule-requires
put_rule-requires c =
    left_room _ _
    (left_as (rules_next c.args.clauses.cells.now c.args.clauses.sizes.now (omega (arith, c.loop-k-test.true, c.count-count.ensures.is)) c.clause.ensures.is) c.loop-k.invariant)
    c.requires

pub loop-k-preserved : goal.loop-k-preserved
loop-k-preserved c =
    left_more
    (left_as (rules_next c.args.clauses.cells.now c.args.clauses.sizes.now (omega (arith, c.loop-k-test.true, c.count-count.ensures.is)) c.clause.ensures.is) c.loop-k.invariant)
    c.put_rule.ensures

pub returns : goal.returns
returns c = left_none (left_as (rules_end c.args.clauses.cells.now c.args.clauses.sizes.now c.loop-k.k (omega (arith, c.loop-k-test.false, c.count-count.ensures.is))) c.loop-k.invariant)
