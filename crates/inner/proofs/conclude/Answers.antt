-- `conclude` meets its contract: steps 1 and 2, then 3 and 4, as `leaf` of qbf has them.
use Rattle.inner.proofs.Conclusions.{conflict_no, conflict_none, open_known}
use Rattle.inner.proofs.Stepping.{last_given}
use Rattle.inner.proofs.conclude.Goals as goal

pub returns-in-Some-clause-concluded : goal.returns-in-Some-clause-concluded
returns-in-Some-clause-concluded c = let l = c.args.learned.now in
    let area = c.args.trail.now.cube in
    λ D R s st k shown entered.
    let given = last_given shown.statused shown.long c.requires c.true_at.ensures.1 in
    record {
      read =
          conflict_no D R s st c.args.matrix.now.rows l.clauses.cells.now l.cubes.cells.now area
          (c.conflict.ensures D R s st k c.args.trail.now.marks area shown.statused given shown.falses shown.matrix shown.formed entered shown.stored.clauses)
          c.in-Some.is;
      known = tt;
    }

pub returns-in-None-clause-concluded : goal.returns-in-None-clause-concluded
returns-in-None-clause-concluded c = let l = c.args.learned.now in
    let area = c.solution.new.trail.cube in
    λ D R s st k shown entered.
    let given = last_given shown.statused shown.long c.requires c.true_at.ensures.1 in
    let found = c.solution.ensures.leaf_coded D R s st k c.args.matrix.now.rows l.clauses.cells.now shown.quantified shown.statused shown.formed given shown.trues shown.stored.cubes shown.matrix.by_code entered in
    record {
      read =
          conflict_none D R s st c.args.matrix.now.rows l.clauses.cells.now l.cubes.cells.now area
          (c.conflict.ensures D R s st k c.args.trail.now.marks area shown.statused given shown.falses shown.matrix shown.formed entered shown.stored.clauses)
          c.in-None.is c.solution.result found.1;
      known = open_known c.solution.result shown.long found.0;
    }
