-- `search_calls::nearest::closest` meets its contract: by what the card on the same state was served with, or by the refusal of the arguments.
use lib.ListN.{length}
use Rattle.rule_calls.specs.StaysAt.{search_writes}
use Rattle.rule_calls.proofs.Calls.{malformed_by}
use Rattle.rule_calls.proofs.Lists.{serves_at}
use Rattle.rule_calls.proofs.Stays.{same_stays}
use Rattle.search_calls.proofs.Checks.{valid_shown}
use Rattle.search_calls.proofs.Owing.{malformed_owed, unread_owed, lines_fit, nearest_owed, card_refused_owed}
use Rattle.search_calls.proofs.nearest.closest.Goals as goal

pub returns-in_default-clause-serves : goal.returns-in_default-clause-serves
returns-in_default-clause-serves c = serves_at (malformed_owed c.args.cells.now c.args.literals.now c.args.asked.ceiling (length c.args.table.now) c.args.asked.on.now c.args.asked.off.now (malformed_by _ _ c.check.result _ _ c.check.ensures c.in_default.not-Ok) c.refused.result.told c.refused.result.lines c.refused.result.visits _ _ c.refused.ensures c.clear.ensures c.clear_reading.ensures).0

pub returns-in_default-clause-reading_after : goal.returns-in_default-clause-reading_after
returns-in_default-clause-reading_after c = (malformed_owed c.args.cells.now c.args.literals.now c.args.asked.ceiling (length c.args.table.now) c.args.asked.on.now c.args.asked.off.now (malformed_by _ _ c.check.result _ _ c.check.ensures c.in_default.not-Ok) c.refused.result.told c.refused.result.lines c.refused.result.visits _ _ c.refused.ensures c.clear.ensures c.clear_reading.ensures).1

pub returns-in_default-clause-frame : goal.returns-in_default-clause-frame
returns-in_default-clause-frame c = same_stays search_writes c.args.cells.now c.args.literals.now

pub returns-in_default-full_reading-clause-serves : goal.returns-in_default-full_reading-clause-serves
returns-in_default-full_reading-clause-serves c = serves_at (unread_owed c.args.cells.now c.args.literals.now (valid_shown c.in-Ok.layout c.args.cells.now c.args.literals.now c.in-Ok.ensures) c.in-Ok.ensures c.checked-state.ensures c.args.asked.ceiling (length c.args.table.now) c.args.asked.on.now c.args.asked.off.now c.full_reading.result _ c.full_reading.ensures c.in_default-full_reading.not-Some c.refused-in_default-full_reading.result.told c.refused-in_default-full_reading.result.lines c.refused-in_default-full_reading.result.visits _ _ c.refused-in_default-full_reading.ensures c.clear-in_default-full_reading.ensures c.clear_reading.ensures).0

pub returns-in_default-full_reading-clause-reading_after : goal.returns-in_default-full_reading-clause-reading_after
returns-in_default-full_reading-clause-reading_after c = (unread_owed c.args.cells.now c.args.literals.now (valid_shown c.in-Ok.layout c.args.cells.now c.args.literals.now c.in-Ok.ensures) c.in-Ok.ensures c.checked-state.ensures c.args.asked.ceiling (length c.args.table.now) c.args.asked.on.now c.args.asked.off.now c.full_reading.result _ c.full_reading.ensures c.in_default-full_reading.not-Some c.refused-in_default-full_reading.result.told c.refused-in_default-full_reading.result.lines c.refused-in_default-full_reading.result.visits _ _ c.refused-in_default-full_reading.ensures c.clear-in_default-full_reading.ensures c.clear_reading.ensures).1

pub returns-in_default-full_reading-clause-frame : goal.returns-in_default-full_reading-clause-frame
returns-in_default-full_reading-clause-frame c = same_stays search_writes c.args.cells.now c.args.literals.now

pub returns-in-Ok-lines-clause-frame : goal.returns-in-Ok-lines-clause-frame
returns-in-Ok-lines-clause-frame c = c.card_on-listed.ensures.frame

pub returns-in-Ok-lines-clause-serves : goal.returns-in-Ok-lines-clause-serves
returns-in-Ok-lines-clause-serves c = serves_at (nearest_owed c.args.cells.now c.args.literals.now (valid_shown c.in-Ok.layout c.args.cells.now c.args.literals.now c.in-Ok.ensures) c.in-Ok.ensures c.checked-state.ensures c.args.asked.ceiling (length c.args.table.now) c.args.asked.on.now c.args.asked.off.now c.in-Some.free c.full_reading.new.given c.in-Some.ensures c.card_on-listed.result.lines c.card_on-listed.result.visits _ _ _ c.card_on-listed.ensures.serves c.in-Ok-lines.lines c.in-Ok-lines.is _ _ c.clear_reading.ensures c.on_lines.ensures.reading_len_unchanged c.on_lines.result.told c.on_lines.result.lines c.on_lines.result.visits _ c.on_lines.ensures.reading_after c.on_lines.ensures.reading_after_2).0

pub returns-in-Ok-lines-clause-reading_after : goal.returns-in-Ok-lines-clause-reading_after
returns-in-Ok-lines-clause-reading_after c = (nearest_owed c.args.cells.now c.args.literals.now (valid_shown c.in-Ok.layout c.args.cells.now c.args.literals.now c.in-Ok.ensures) c.in-Ok.ensures c.checked-state.ensures c.args.asked.ceiling (length c.args.table.now) c.args.asked.on.now c.args.asked.off.now c.in-Some.free c.full_reading.new.given c.in-Some.ensures c.card_on-listed.result.lines c.card_on-listed.result.visits _ _ _ c.card_on-listed.ensures.serves c.in-Ok-lines.lines c.in-Ok-lines.is _ _ c.clear_reading.ensures c.on_lines.ensures.reading_len_unchanged c.on_lines.result.told c.on_lines.result.lines c.on_lines.result.visits _ c.on_lines.ensures.reading_after c.on_lines.ensures.reading_after_2).1

pub returns-in-Err-clause-frame : goal.returns-in-Err-clause-frame
returns-in-Err-clause-frame c = c.card_on-listed.ensures.frame

pub returns-in-Err-clause-serves : goal.returns-in-Err-clause-serves
returns-in-Err-clause-serves c = serves_at (card_refused_owed c.args.cells.now c.args.literals.now (valid_shown c.in-Ok.layout c.args.cells.now c.args.literals.now c.in-Ok.ensures) c.in-Ok.ensures c.checked-state.ensures c.args.asked.ceiling (length c.args.table.now) c.args.asked.on.now c.args.asked.off.now c.in-Some.free c.full_reading.new.given c.in-Some.ensures c.card_on-listed.result.lines c.card_on-listed.result.visits _ _ _ c.card_on-listed.ensures.serves c.in-Err.refusal c.in-Err.is c.refused-in-Err.result.told c.refused-in-Err.result.lines c.refused-in-Err.result.visits _ c.refused-in-Err.ensures c.clear_reading.ensures).0

pub returns-in-Err-clause-reading_after : goal.returns-in-Err-clause-reading_after
returns-in-Err-clause-reading_after c = (card_refused_owed c.args.cells.now c.args.literals.now (valid_shown c.in-Ok.layout c.args.cells.now c.args.literals.now c.in-Ok.ensures) c.in-Ok.ensures c.checked-state.ensures c.args.asked.ceiling (length c.args.table.now) c.args.asked.on.now c.args.asked.off.now c.in-Some.free c.full_reading.new.given c.in-Some.ensures c.card_on-listed.result.lines c.card_on-listed.result.visits _ _ _ c.card_on-listed.ensures.serves c.in-Err.refusal c.in-Err.is c.refused-in-Err.result.told c.refused-in-Err.result.lines c.refused-in-Err.result.visits _ c.refused-in-Err.ensures c.clear_reading.ensures).1

pub on_lines-requires-clause-given_in_bounds : goal.on_lines-requires-clause-given_in_bounds
on_lines-requires-clause-given_in_bounds c =
    lines_fit c.args.cells.now c.args.literals.now (valid_shown c.in-Ok.layout c.args.cells.now c.args.literals.now c.in-Ok.ensures) c.in-Ok.ensures c.checked-state.ensures c.args.asked.ceiling (length c.args.table.now) c.args.asked.on.now c.args.asked.off.now c.in-Some.free c.full_reading.new.given c.in-Some.ensures c.card_on-listed.result.lines c.card_on-listed.result.visits _ _ _ c.card_on-listed.ensures.serves
    c.in-Ok-lines.lines c.in-Ok-lines.is _ c.clear_reading.ensures
