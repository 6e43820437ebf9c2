-- `read_at` meets its contract: the brackets, the word, and what is left behind it.
use mathlib.Core.Path.{sym, ◌∙◌}
use Rattle.day_reader.proofs.Lines.{at_out, at_alone, at_said, at_other}
use Rattle.day_reader.proofs.at.read_at.Goals as goal

pub returns-in_err-inside : goal.returns-in_err-inside
returns-in_err-inside c = rw c.from_residual.ensures (sym (at_out c.args.l.now c.in_err-inside.ensures))

pub returns-in_err-left : goal.returns-in_err-left
returns-in_err-left c = rw c.from_residual-in_err-left.ensures (sym (at_alone c.args.l.now c.in_ok-inside.ensures c.cut.ensures c.in_err-left.was))

pub returns-then-same_word : goal.returns-then-same_word
returns-then-same_word c = c.at_items.ensures ∙ sym (at_said c.args.l.now c.in_ok-inside.ensures c.cut.ensures _ c.in_ok-left.was (sym c.same_word.ensures ∙ c.if-same_word.true))

pub returns : goal.returns
returns c = sym (at_other c.args.l.now c.in_ok-inside.ensures c.cut.ensures (sym c.same_word.ensures ∙ c.if-same_word.false))
