-- `put_rule` meets its contract: three texts one after the other.
use Rattle.booktext.specs.Books.{rule_text}
use Rattle.writer.proofs.Appending.{appended_then}
use Rattle.book_writer.proofs.rules.put_rule.Goals as goal

pub returns : goal.returns
unfolding rule_text
returns c = appended_then (appended_then c.put_word.ensures c.put_literals.ensures) c.put_word-2.ensures
