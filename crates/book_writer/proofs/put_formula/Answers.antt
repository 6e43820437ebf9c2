-- `put_formula` meets its contract: the parts of the text, one after the other.
use mathlib.Core.Path.{sym}
use borrow.Author.Rules.{rules}
use Rattle.booktext.specs.Books.{written_text}
use Rattle.writer.proofs.Appending.{appended_then, wrote_lent}
use Rattle.book_writer.proofs.put_formula.Goals as goal

pub returns : goal.returns
unfolding written_text
returns c =
    let wrote = appended_then c.put_word.ensures (appended_then c.put_variables.ensures (appended_then c.put_rules.ensures c.put_word-2.ensures)) in
    wrote_lent wrote.wrote (search (rules, sym wrote.same))
