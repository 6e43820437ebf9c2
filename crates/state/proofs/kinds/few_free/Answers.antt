use Rattle.state.proofs.Codes.{few_free}
use Rattle.state.proofs.kinds.few_free.Goals as goal

pub returns-then-count-le-MOST_FREE : goal.returns-then-count-le-MOST_FREE
returns-then-count-le-MOST_FREE c D h q = few_free D c.args.variables.numbers.now h c.count.ensures c.if-count-le-MOST_FREE.true
