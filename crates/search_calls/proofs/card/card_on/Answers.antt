-- `search_calls::card::card_on` meets its contract: what was answered on the state as it was checked, with what was learned written back, and nothing else.
use Rattle.qbf.specs.Calls.{card_of}
use Rattle.rule_calls.specs.StaysAt.{search_writes}
use Rattle.rule_calls.proofs.Stays.{same_stays}
use Rattle.search_calls.proofs.Calls.{served_same, writable, served_kept, back_stays}
use Rattle.search_calls.proofs.card.card_on.Goals as goal

pub write_back-requires : goal.write_back-requires
write_back-requires c = writable c.args.layout c.args.cells.now c.args.literals.now c.requires c.checked-checked.ensures (card_of c.args.yes c.args.ceiling _) _ _ c.card_of-learned.ensures.answered _ c.in-Some.is

pub returns-in-Some-clause-frame : goal.returns-in-Some-clause-frame
returns-in-Some-clause-frame c = back_stays c.args.layout c.requires c.write_back.ensures

pub returns-in-Some-clause-serves : goal.returns-in-Some-clause-serves
returns-in-Some-clause-serves c = served_kept c.args.layout c.args.cells.now c.args.literals.now c.requires c.checked-checked.ensures (card_of c.args.yes c.args.ceiling _) _ _ c.card_of-learned.ensures.answered _ c.in-Some.is c.write_back.ensures.at

pub returns-in-None-clause-serves : goal.returns-in-None-clause-serves
returns-in-None-clause-serves c = served_same c.args.layout c.args.cells.now c.args.literals.now c.requires c.checked-checked.ensures (card_of c.args.yes c.args.ceiling _) _ _ c.card_of-learned.ensures.answered c.in-None.is

pub returns-in-None-clause-frame : goal.returns-in-None-clause-frame
returns-in-None-clause-frame c = same_stays search_writes c.args.cells.now c.args.literals.now
