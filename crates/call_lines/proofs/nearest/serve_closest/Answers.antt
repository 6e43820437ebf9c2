-- `serve_closest` meets its contract.
use Rattle.call_lines.proofs.Searches.{nearest_served, nearest_line}
use Rattle.call_lines.proofs.nearest.serve_closest.Goals as goal

pub nearest_turn-turn-requires : goal.nearest_turn-turn-requires
nearest_turn-turn-requires c = nearest_served c.names_at-names.result _ c.closest-nearest.auto.table c.closest-nearest.ensures.serves (c.names_at-names.ensures c.closest-nearest.new.literals)

pub returns-clause-called : goal.returns-clause-called
returns-clause-called c = nearest_line _ _ c.nearest_turn-turn.ensures.turned c.closest-nearest.auto.table c.closest-nearest.ensures.serves (c.names_at-names.ensures c.closest-nearest.new.literals) c.is_stop-stopped.ensures
