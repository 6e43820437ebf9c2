-- `search_calls::card_of` meets its contract: a malformed state, or the card.
use Rattle.rule_calls.specs.StaysAt.{search_writes}
use Rattle.rule_calls.proofs.Calls.{malformed_by}
use Rattle.rule_calls.proofs.Stays.{same_stays}
use Rattle.search_calls.proofs.Calls.{malformed_card}
use Rattle.search_calls.proofs.card_of.Goals as goal

pub returns-in_default-clause-serves : goal.returns-in_default-clause-serves
returns-in_default-clause-serves c = malformed_card c.args.cells.now c.args.literals.now c.args.yes c.args.ceiling _ _ c.clear.ensures (malformed_by _ _ c.check.result _ _ c.check.ensures c.in_default.not-Ok) (c.refused.ensures _)

pub returns-in_default-clause-frame : goal.returns-in_default-clause-frame
returns-in_default-clause-frame c = same_stays search_writes c.args.cells.now c.args.literals.now
