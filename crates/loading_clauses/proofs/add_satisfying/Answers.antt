-- `add_satisfying` meets its contract: after i turns the clause is in the rows of its first i codes.
use Rattle.loading_clauses.proofs.Filling.{satisfying_more}
use Rattle.loading_clauses.proofs.add_satisfying.Goals as goal

pub loop-code-preserved : goal.loop-code-preserved
loop-code-preserved c = satisfying_more c.args.row.now c.loop-code.code-index c.loop-code.invariant c.requires.0.number c.loop-code-test.true c.insert.ensures
