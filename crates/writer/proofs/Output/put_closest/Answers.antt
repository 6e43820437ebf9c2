-- `put_closest` meets its contract: its texts one after the other, the last numbers each with its word.
use Rattle.layout.specs.Words.{ascii}
use Rattle.layout.specs.Output.{decimal}
use Rattle.writer.specs.Rows.{closest_row}
use Rattle.writer.proofs.Appending.{appended_then, appended_two}
use Rattle.writer.proofs.Output.put_closest.Goals as goal

pub returns : goal.returns
unfolding closest_row
returns c = appended_then
    (appended_two (ascii ") (visits ") (decimal c.args.found.visits)
    (appended_two (ascii ") (lines ") (decimal c.args.found.lines)
    (appended_two (ascii ") (differs ") (decimal c.args.found.differs)
    (appended_then c.put_word.ensures c.put_items.ensures)
    c.put_counted.ensures)
    c.put_counted-2.ensures)
    c.put_counted-3.ensures)
    c.put_word-2.ensures
