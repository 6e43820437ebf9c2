-- `serve_card` meets its contract.
use Rattle.call_lines.proofs.Searches.{card_served, card_line}
use Rattle.call_lines.proofs.card.serve_card.Goals as goal

pub card_turn-turn-requires : goal.card_turn-turn-requires
card_turn-turn-requires c = card_served c.names_at-names.result _ c.card_of-listed.result c.card_of-listed.auto.table c.card_of-listed.ensures.serves (c.names_at-names.ensures c.card_of-listed.new.literals)

pub returns-clause-called : goal.returns-clause-called
returns-clause-called c = card_line _ _ _ c.card_turn-turn.ensures.turned c.card_of-listed.auto.table c.card_of-listed.ensures.serves (c.names_at-names.ensures c.card_of-listed.new.literals) c.is_stop-stopped.ensures
