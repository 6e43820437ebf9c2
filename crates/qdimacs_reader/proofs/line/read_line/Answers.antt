-- `read_line`: a comment, then the edges, then the words.
use mathlib.Core.Path.{sym, subst}
use mathlib.Core.Option.{Option}
use Rattle.qdimacs_form.specs.Lines.{Line}
use Rattle.qdimacs_reader.specs.Lines.{LineRead}
use Rattle.qdimacs_reader.proofs.Lines.{line_comment, line_unedged, line_words}
use mathlib.Core.Bool.{not}
use mathlib.Core.Path.{ap}
use Rattle.qdimacs_reader.proofs.line.read_line.Goals as goal

pub returns-then-is_comment : goal.returns-then-is_comment
returns-then-is_comment c = line_comment c.args.l.now c.is_comment.ensures c.if-is_comment.true

pub returns-then-not-is_edged : goal.returns-then-not-is_edged
returns-then-not-is_edged c = line_unedged c.args.l.now c.is_comment.ensures c.if-is_comment.false c.is_edged.ensures (ap not c.if-not-is_edged.true)

pub returns : goal.returns
returns c = subst (λ (o : Option Line). LineRead o c.read_words.result c.read_words.new.out)
    (sym (line_words c.args.l.now c.is_comment.ensures c.if-is_comment.false c.is_edged.ensures (ap not c.if-not-is_edged.false))) c.read_words.ensures
