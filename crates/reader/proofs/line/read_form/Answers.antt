-- `read_form` meets its contract: the form by the first word.
use Rattle.reader.proofs.Keywords.{form_unnamed, form_none, form_some}
use Rattle.reader.proofs.line.read_form.Goals as goal

pub returns-in_err-w : goal.returns-in_err-w
returns-in_err-w c = rw c.from_residual.ensures (form_unnamed c.cut.ensures c.word_of.ensures c.in_err-w.was)

pub returns-in_err-n : goal.returns-in_err-n
returns-in_err-n c = rw c.from_residual-in_err-n.ensures (form_none c.cut.ensures c.word_of.ensures c.in_ok-w.was c.takes_signs.ensures c.in_err-n.ensures)

pub returns : goal.returns
returns c = form_some c.cut.ensures c.word_of.ensures c.in_ok-w.was c.takes_signs.ensures c.in_ok-n.ensures.1 c.in_ok-n.ensures.2 c.line_of.ensures
