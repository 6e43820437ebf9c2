-- `request_words` meets its contract: the word, then its items.
use mathlib.Core.Path.{sym, ◌∙◌}
use Rattle.reader.proofs.Requests.{read_write, read_page, read_other}
use Rattle.reader.proofs.request.request_words.Goals as goal

pub returns-then-same_word : goal.returns-then-same_word
returns-then-same_word c = read_write c.cut.ensures c.write_items.result (sym c.same_word.ensures ∙ c.if-same_word.true) c.write_items.ensures

pub returns-then-same_word-2 : goal.returns-then-same_word-2
returns-then-same_word-2 c = read_page c.cut.ensures c.page_items.result (sym c.same_word-2.ensures ∙ c.if-same_word-2.true) c.page_items.ensures

pub returns : goal.returns
returns c = read_other c.cut.ensures (sym c.same_word.ensures ∙ c.if-same_word.false) (sym c.same_word-2.ensures ∙ c.if-same_word-2.false)
