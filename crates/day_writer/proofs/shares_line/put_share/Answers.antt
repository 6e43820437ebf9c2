-- `put_share` meets its contract: seven texts one after the other.
use Rattle.day_text.specs.Output.{share_text}
use Rattle.writer.proofs.Appending.{appended_then}
use Rattle.day_writer.proofs.shares_line.put_share.Goals as goal

pub returns : goal.returns
unfolding share_text
returns c =
    appended_then (appended_then (appended_then (appended_then (appended_then (appended_then c.put_word.ensures c.put_number.ensures) c.put_word-2.ensures) c.put_number-2.ensures) c.put_word-3.ensures) c.put_number-3.ensures) c.put_word-4.ensures
