-- `open_run::below` meets its contract: no clause is satisfied before the first place.
use Rattle.open_run.proofs.Walking.{below_found}
use Rattle.open_run.proofs.below.Goals as goal

pub returns : goal.returns
returns c = (c.start.ensures.0, below_found c.args.count c.args.budget c.start.result c.words_of-words.ensures c.first_row.ensures c.start.ensures.1)
