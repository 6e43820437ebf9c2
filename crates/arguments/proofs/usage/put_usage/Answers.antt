-- `put_usage` meets its contract: three texts one after the other.
use Rattle.arguments.specs.Arguments.{usage_text}
use Rattle.writer.proofs.Appending.{appended_then}
use Rattle.arguments.proofs.usage.put_usage.Goals as goal

pub returns : goal.returns
unfolding usage_text
returns c = appended_then (appended_then c.put_word.ensures c.put_word-2.ensures) c.put_word-3.ensures
