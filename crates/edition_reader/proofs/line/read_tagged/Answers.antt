-- `read_tagged` meets its contract: the number of the tag, then the literals.
use mathlib.Core.Path.{sym, subst}
use Rattle.std.specs.Prelude.{Option as Answer, Some, None}
use Rattle.std.specs.Borrow.{Bor}
use Rattle.layout.specs.Words.{Bytes, space}
use Rattle.reader.specs.Pieces.{pieces}
use Rattle.edition_reader.specs.Lines.{tag_from, LineRead}
use Rattle.edition_reader.specs.declared.line.Line.TheVariants as line
use Rattle.edition_reader.proofs.Lines.{tag_none, tag_unread, tag_no_items, tag_read}
use Rattle.edition_reader.proofs.line.read_tagged.Goals as goal

pub returns-in_err-left : goal.returns-in_err-left
returns-in_err-left c = rw c.from_residual.ensures (subst (λ (l : Answer (Bor Bytes)). LineRead (tag_from (pieces space l)) None c.args.out.now) (sym c.in_err-left.was) tag_none)

pub returns-in_err-tag : goal.returns-in_err-tag
returns-in_err-tag c = rw c.from_residual-in_err-tag.ensures (subst (λ (l : Answer (Bor Bytes)). LineRead (tag_from (pieces space l)) None c.args.out.now) (sym c.in_ok-left.was) (tag_unread c.cut.ensures (sym c.in_err-tag.ensures)))

pub returns-in_err-n : goal.returns-in_err-n
returns-in_err-n c = rw c.from_residual-in_err-n.ensures (subst (λ (l : Answer (Bor Bytes)). LineRead (tag_from (pieces space l)) None c.read_items.new.out) (sym c.in_ok-left.was) (tag_no_items c.cut.ensures (sym c.in_ok-tag.ensures) c.in_err-n.ensures))

pub returns : goal.returns
returns c = subst (λ (l : Answer (Bor Bytes)). LineRead (tag_from (pieces space l)) (Some (line.Tagged c.in_ok-tag.tag c.in_ok-n.n)) c.read_items.new.out) (sym c.in_ok-left.was) (tag_read c.cut.ensures c.in_ok-tag.tag c.in_ok-n.n (sym c.in_ok-tag.ensures) c.in_ok-n.ensures)
