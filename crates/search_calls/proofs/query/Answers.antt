-- `search_calls::query` meets its contract: what was answered on the state as it was checked, with what was learned written back, and nothing else.
use Rattle.qbf.specs.Calls.{query}
use Rattle.rule_calls.specs.StaysAt.{search_writes}
use Rattle.rule_calls.proofs.Calls.{malformed_by}
use Rattle.rule_calls.proofs.Stays.{same_stays}
use Rattle.search_calls.proofs.Calls.{malformed_as, served_same, writable, served_kept, back_stays}
use Rattle.search_calls.proofs.query.Goals as goal

pub returns-in_default-clause-serves : goal.returns-in_default-clause-serves
returns-in_default-clause-serves c = malformed_as c.args.cells.now c.args.literals.now (query c.args.asked.ceiling _ _) (malformed_by _ _ c.check.result _ _ c.check.ensures c.in_default.not-Ok) c.refused.ensures

pub returns-in_default-clause-frame : goal.returns-in_default-clause-frame
returns-in_default-clause-frame c = same_stays search_writes c.args.cells.now c.args.literals.now

pub write_back-requires : goal.write_back-requires
write_back-requires c = writable c.in-Ok.layout c.args.cells.now c.args.literals.now c.in-Ok.ensures c.checked-checked.ensures (query c.args.asked.ceiling _ _) _ _ c.query-learned.ensures _ c.in-Some.is

pub returns-in-Some-clause-frame : goal.returns-in-Some-clause-frame
returns-in-Some-clause-frame c = back_stays c.in-Ok.layout c.in-Ok.ensures c.write_back.ensures

pub returns-in-Some-clause-serves : goal.returns-in-Some-clause-serves
returns-in-Some-clause-serves c = served_kept c.in-Ok.layout c.args.cells.now c.args.literals.now c.in-Ok.ensures c.checked-checked.ensures (query c.args.asked.ceiling _ _) _ _ c.query-learned.ensures _ c.in-Some.is c.write_back.ensures.at

pub returns-in-None-clause-serves : goal.returns-in-None-clause-serves
returns-in-None-clause-serves c = served_same c.in-Ok.layout c.args.cells.now c.args.literals.now c.in-Ok.ensures c.checked-checked.ensures (query c.args.asked.ceiling _ _) _ _ c.query-learned.ensures c.in-None.is

pub returns-in-None-clause-frame : goal.returns-in-None-clause-frame
returns-in-None-clause-frame c = same_stays search_writes c.args.cells.now c.args.literals.now
