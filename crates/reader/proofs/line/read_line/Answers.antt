-- `read_line` meets its contract: the brackets, then what stands between them.
use mathlib.Core.Path.{sym, subst}
use mathlib.Core.Option.{Option}
use Rattle.layout.specs.Forms.{Form}
use Rattle.reader.specs.Lines.{LineRead}
use Rattle.reader.proofs.Lines.{form_out, form_in}
use Rattle.reader.proofs.line.read_line.Goals as goal

pub returns-in_err-inside : goal.returns-in_err-inside
returns-in_err-inside c = rw c.from_residual.ensures (form_out c.args.l.now c.in_err-inside.ensures)

pub returns : goal.returns
returns c = subst (λ (o : Option Form). LineRead o c.read_form.result c.read_form.new.out) (sym (form_in c.args.l.now c.in_ok-inside.ensures)) c.read_form.ensures
