-- `read_line` meets its contract: the brackets, then what stands between them.
use mathlib.Core.Path.{sym, subst}
use mathlib.Core.Option.{Option}
use Rattle.editions.specs.Lines as form
use Rattle.edition_reader.specs.Lines.{LineRead}
use Rattle.edition_reader.proofs.Lines.{line_out, line_in_lem}
use Rattle.edition_reader.proofs.line.read_line.Goals as goal

pub returns-in_err-inside : goal.returns-in_err-inside
returns-in_err-inside c = rw c.from_residual.ensures (line_out c.args.l.now c.in_err-inside.ensures)

pub returns : goal.returns
returns c = subst (λ (o : Option form.Line). LineRead o c.read_words.result c.read_words.new.out) (sym (line_in_lem c.args.l.now c.in_ok-inside.ensures)) c.read_words.ensures
