-- `put_at` meets its contract: three texts one after the other.
use Rattle.day_text.specs.Output.{at_text}
use Rattle.writer.proofs.Appending.{appended_then}
use Rattle.day_writer.proofs.place.put_at.Goals as goal

pub returns : goal.returns
unfolding at_text
returns c = appended_then (appended_then c.put_word.ensures c.put_number.ensures) c.put_word-2.ensures
