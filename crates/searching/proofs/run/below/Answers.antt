-- `searching::run::below` meets its contract: the branch at the start node, with what is known there.
use Rattle.searching.proofs.Running.{below_shown, below_as, few_at, row_long}
use Rattle.searching.proofs.run.below.Goals as goal

pub statuses_of-requires : goal.statuses_of-requires
statuses_of-requires c = few_at c.args.given c.requires.0

pub invariant_of-start_rows-clause-within : goal.invariant_of-start_rows-clause-within
invariant_of-start_rows-clause-within c = few_at c.args.given c.requires.0

pub invariant_of-start_rows-clause-long : goal.invariant_of-start_rows-clause-long
invariant_of-start_rows-clause-long c = row_long c.args.given c.words_of-words.ensures c.count-count.ensures

pub returns-clause-below : goal.returns-clause-below
returns-clause-below c =
    below_as c.count-count.ensures
    (below_shown _ _ c.count-count.result c.words_of-words.result _ _ _ _ _ _ _ _ _ _ _ c.args.task.at c.args.task.free c.args.task.budget c.start.result _ _ _ _ _ _ c.requires.0 c.words_of-words.ensures
    c.statuses_of.ensures c.start_rows.ensures c.words_at-held.ensures c.start.ensures.followed)
