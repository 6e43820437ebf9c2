-- `put_refusal` meets its contract: five texts one after the other.
use Rattle.layout.specs.Output.{refusal_text}
use Rattle.writer.proofs.Appending.{appended_then}
use Rattle.writer.proofs.Output.put_refusal.Goals as goal

pub returns : goal.returns
unfolding refusal_text
returns c = appended_then (appended_then (appended_then (appended_then c.put_word.ensures c.put_number.ensures) c.put_word-2.ensures) c.put_number-2.ensures) c.put_word-3.ensures
