-- `put_card` meets its contract: four texts one after the other.
use Rattle.writer.specs.Rows.{card_rows}
use Rattle.writer.proofs.Appending.{appended_then}
use Rattle.writer.proofs.Output.put_card.Goals as goal

pub returns : goal.returns
unfolding card_rows
returns c = appended_then (appended_then (appended_then c.put_head.ensures c.put_lines.ensures) c.put_visits.ensures) c.put_word.ensures
