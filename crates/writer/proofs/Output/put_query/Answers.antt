-- `put_query` meets its contract: five texts one after the other.
use Rattle.layout.specs.Output.{query_text}
use Rattle.writer.proofs.Appending.{appended_then}
use Rattle.writer.proofs.Output.put_query.Goals as goal

pub returns : goal.returns
unfolding query_text
returns c = appended_then (appended_then (appended_then (appended_then c.put_word.ensures c.put_word-2.ensures) c.put_word-3.ensures) c.put_number.ensures) c.put_word-4.ensures
