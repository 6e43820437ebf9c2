-- `read_words` meets its contract: the first word decides.
use mathlib.Core.Path.{sym, ◌∙◌}
use Rattle.std.specs.Prelude.{Some, None}
use Rattle.edition_reader.proofs.Lines.{words_rule, words_one, words_form, form_unread, form_read}
use Rattle.edition_reader.proofs.line.read_words.Goals as goal

pub returns-then-same_word : goal.returns-then-same_word
returns-then-same_word c = words_rule c.cut.ensures c.read_rule.result _ (sym c.same_word.ensures ∙ c.if-same_word.true) c.read_rule.ensures

pub returns-then-same_word-2 : goal.returns-then-same_word-2
returns-then-same_word-2 c = words_one c.cut.ensures c.read_one.result _ (sym c.same_word.ensures ∙ c.if-same_word.false) (sym c.same_word-2.ensures ∙ c.if-same_word-2.true) c.read_one.ensures

pub returns-in_err-form : goal.returns-in_err-form
returns-in_err-form c = rw c.from_residual.ensures (words_form c.cut.ensures None c.read_form.new.out (sym c.same_word.ensures ∙ c.if-same_word.false) (sym c.same_word-2.ensures ∙ c.if-same_word-2.false) (form_unread _ c.in_err-form.ensures))

pub returns : goal.returns
returns c = words_form c.cut.ensures (Some c.from.result) _ (sym c.same_word.ensures ∙ c.if-same_word.false) (sym c.same_word-2.ensures ∙ c.if-same_word-2.false) (rw c.from.ensures (form_read _ c.in_ok-form.form _ c.in_ok-form.ensures))
