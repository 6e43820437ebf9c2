-- `put_visits` meets its contract: three texts one after the other.
use Rattle.layout.specs.Output.{visits_text}
use Rattle.writer.proofs.Appending.{appended_then}
use Rattle.writer.proofs.Output.put_visits.Goals as goal

pub returns : goal.returns
unfolding visits_text
returns c = appended_then (appended_then c.put_word.ensures c.put_number.ensures) c.put_word-2.ensures
