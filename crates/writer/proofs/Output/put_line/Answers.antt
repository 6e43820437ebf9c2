-- `put_line` meets its contract: three texts one after the other.
use Rattle.writer.specs.Rows.{row_text}
use Rattle.writer.proofs.Appending.{appended_then}
use Rattle.writer.proofs.Output.put_line.Goals as goal

pub returns : goal.returns
unfolding row_text
returns c = appended_then (appended_then c.put_word.ensures c.put_items.ensures) c.put_word-2.ensures
