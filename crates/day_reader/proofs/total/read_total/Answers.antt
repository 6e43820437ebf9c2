-- `read_total` meets its contract: the brackets, the word, and what is left behind it.
use mathlib.Core.Path.{sym, ◌∙◌}
use Rattle.day_reader.proofs.Lines.{total_out, total_day, total_other}
use Rattle.day_reader.proofs.total.read_total.Goals as goal

pub returns-in_err-inside : goal.returns-in_err-inside
returns-in_err-inside c = rw c.from_residual.ensures (sym (total_out c.args.l.now c.in_err-inside.ensures))

pub returns-then-same_word : goal.returns-then-same_word
returns-then-same_word c = c.total_item.ensures ∙ sym (total_day c.args.l.now c.in_ok-inside.ensures c.cut.ensures (sym c.same_word.ensures ∙ c.if-same_word.true))

pub returns : goal.returns
returns c = sym (total_other c.args.l.now c.in_ok-inside.ensures c.cut.ensures (sym c.same_word.ensures ∙ c.if-same_word.false))
