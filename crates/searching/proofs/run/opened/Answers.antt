-- `searching::run::opened` meets its contract: the clauses are derived, and the learned constraints go onto shelves.
use Rattle.searching.proofs.Running.{opened_shown, few_numbers, clauses_held, learned_held, cubes_held}
use Rattle.searching.proofs.run.opened.Goals as goal

pub quantifiers_of-requires : goal.quantifiers_of-requires
quantifiers_of-requires c = few_numbers c.args.given

pub load_clauses-requires : goal.load_clauses-requires
load_clauses-requires c = clauses_held c.args.given c.cell_at.ensures

pub load-requires : goal.load-requires
load-requires c = learned_held c.args.given c.empty-clauses.ensures.0

pub load-requires-2 : goal.load-requires-2
load-requires-2 c = cubes_held c.args.given c.empty-cubes.ensures.0

pub returns-clause-opened : goal.returns-clause-opened
returns-clause-opened c =
    opened_shown c.args.given c.args.task _ _ _ _ _ c.below-answer.result _ _ _ _ _ _ _ _ _
    c.quantifiers_of.ensures c.load_clauses.ensures.0 c.cell_at.ensures c.load_clauses.ensures.1 c.load.ensures.0 c.load.ensures.1 c.load-2.ensures.1 c.below-answer.ensures.below
