-- `read_words`: the first word decides what the others are.
use mathlib.Core.Path.{ap, ◌∙◌}
use Rattle.std.specs.Prelude.{Some}
use Rattle.qdimacs_reader.proofs.Lines.{no_words, words_header, words_exists, exists_none, words_forall, forall_none, words_clause, clause_none}
use Rattle.qdimacs_reader.proofs.line.read_words.Goals as goal

pub returns-in_err-first : goal.returns-in_err-first
returns-in_err-first c = rw c.from_residual.ensures (no_words (Some c.args.l) c.in_err-first.ensures)

pub returns-in-Some-Header : goal.returns-in-Some-Header
returns-in-Some-Header c = words_header c.in_ok-first.ensures c.word_of.ensures c.read_header.result _ (c.in-Some-Header.is ∙ ap Some c.in-Some-Header.field-0-is) c.read_header.ensures

pub returns-in_err-read_literals-in-Some-Exists : goal.returns-in_err-read_literals-in-Some-Exists
returns-in_err-read_literals-in-Some-Exists c = rw c.from_residual-in_err-read_literals-in-Some-Exists.ensures (exists_none c.in_ok-first.ensures c.word_of.ensures (c.in-Some-Exists.is ∙ ap Some c.in-Some-Exists.field-0-is) c.in_err-read_literals-in-Some-Exists.ensures)

pub returns-in_err-read_literals-in-Some-Forall : goal.returns-in_err-read_literals-in-Some-Forall
returns-in_err-read_literals-in-Some-Forall c = rw c.from_residual-in_err-read_literals-in-Some-Forall.ensures (forall_none c.in_ok-first.ensures c.word_of.ensures (c.in-Some-Forall.is ∙ ap Some c.in-Some-Forall.field-0-is) c.in_err-read_literals-in-Some-Forall.ensures)

pub returns-in_err-read_literals-in-None : goal.returns-in_err-read_literals-in-None
returns-in_err-read_literals-in-None c = rw c.from_residual-in_err-read_literals-in-None.ensures (clause_none c.in_ok-first.ensures c.word_of.ensures c.in-None.is c.in_err-read_literals-in-None.ensures)

pub returns-in_ok-read_literals-in-Some-Exists : goal.returns-in_ok-read_literals-in-Some-Exists
returns-in_ok-read_literals-in-Some-Exists c = words_exists c.in_ok-first.ensures c.word_of.ensures c.group_of.result _ c.in_ok-read_literals-in-Some-Exists.field-0 (c.in-Some-Exists.is ∙ ap Some c.in-Some-Exists.field-0-is) c.in_ok-read_literals-in-Some-Exists.ensures c.group_of.ensures

pub returns-in_ok-read_literals-in-Some-Forall : goal.returns-in_ok-read_literals-in-Some-Forall
returns-in_ok-read_literals-in-Some-Forall c = words_forall c.in_ok-first.ensures c.word_of.ensures c.group_of-in-Some-Forall.result _ c.in_ok-read_literals-in-Some-Forall.field-0 (c.in-Some-Forall.is ∙ ap Some c.in-Some-Forall.field-0-is) c.in_ok-read_literals-in-Some-Forall.ensures c.group_of-in-Some-Forall.ensures

pub returns-in_ok-read_literals-in-None : goal.returns-in_ok-read_literals-in-None
returns-in_ok-read_literals-in-None c = words_clause c.in_ok-first.ensures c.word_of.ensures _ c.in_ok-read_literals-in-None.field-0 c.in-None.is c.in_ok-read_literals-in-None.ensures
