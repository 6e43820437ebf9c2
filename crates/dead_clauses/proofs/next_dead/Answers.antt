-- `dead_clauses::next_dead`: a literal that is not lost keeps its clause from being dead.
use Rattle.std.proofs.Common.{rules, ◌≡◌, arith, get_or, pos, false, ℤ}
use borrow.Author.Rules.{sfits_of}
use Rattle.literal.proofs.Signed.{back}
use Rattle.dead_clauses.specs.Dead.{lost}
use Rattle.dead_clauses.proofs.Next.{alive_row, dead_row, alive_more}
use Rattle.dead_clauses.proofs.next_dead.Goals as goal

pub clauses-preserved : goal.clauses-preserved
clauses-preserved c =
    let literal : ℤ = get_or c.row-lit-items.result.now c.loop-lit.lit-index (pos 0) in
    let kept : lost c.args.kinds.now c.args.values.now literal ≡ false = cc (back {z = literal} (sfits_of (search rules)), c.is_lost.ensures, c.if-not-is_lost.true) in (
      omega (arith, c.clauses.invariant.0),
      alive_more c.args.clauses.width c.args.clauses.cells.now c.args.clauses.sizes.now c.args.kinds.now c.args.values.now c.args.from c.clauses.k c.clauses.invariant.1
          (alive_row c.args.clauses.width c.args.clauses.cells.now c.args.clauses.sizes.now c.args.kinds.now c.args.values.now c.clauses.k c.row-lit-items.ensures c.loop-lit.lit-index c.loop-lit-test.true kept),
    )

pub returns-in-clauses : goal.returns-in-clauses
returns-in-clauses c = record {
  after = c.clauses.invariant.0;
  within = omega (arith, c.clauses-test.true, c.count-k-end.ensures);
  alive = c.clauses.invariant.1;
  is_dead = dead_row c.args.clauses.width c.args.clauses.cells.now c.args.clauses.sizes.now c.args.kinds.now c.args.values.now c.clauses.k c.row-lit-items.ensures
      (λ j l. c.loop-lit.invariant j (omega (arith, l, c.loop-lit-test.false)));
}
