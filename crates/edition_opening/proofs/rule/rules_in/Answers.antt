-- `rules_in`: the first cell of the sizes counts the rules.
use Rattle.edition_opening.proofs.Taking.{rules_counted}
use Rattle.edition_opening.proofs.rule.rules_in.Goals as goal

pub returns : goal.returns
returns c literals s = rules_counted s c.clause_sizes_at.ensures c.cell_at.ensures
