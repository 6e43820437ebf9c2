-- `dead_clauses::any_dead` meets its contract: a dead clause is found by its index.
use Rattle.std.proofs.Common.{◌∙◌}
use Rattle.dead_clauses.proofs.Next.{some_dead}
use Rattle.dead_clauses.proofs.any_dead.Goals as goal

pub returns : goal.returns
returns c = λ D s k v. c.is_some.ensures ∙ some_dead c.args.clauses.width c.args.clauses.cells.now c.args.clauses.sizes.now c.args.kinds.now c.args.values.now c.next_dead.result c.next_dead.ensures D s k v
