-- `book_end` meets its contract: no line passed is `(end)`.
use mathlib.Core.Path.{subst}
use Rattle.layout.specs.Words.{newline}
use Rattle.reader.specs.Pieces.{Cut}
use Rattle.reader.proofs.Books.{seek_over, seek_found, seek_more}
use Rattle.reader.proofs.text.book_end.Goals as goal

pub returns-in_err-next : goal.returns-in_err-next
returns-in_err-next c = rw c.from_residual.ensures (seek_over c.loop-next.invariant (subst (Cut newline _ _) c.in_err-next.was c.cut.ensures))

pub returns-then-is_end : goal.returns-then-is_end
returns-then-is_end c = seek_found c.loop-next.invariant (subst (Cut newline _ _) c.in_ok-next.was c.cut.ensures) c.is_end.ensures c.if-is_end.true

pub loop-next-preserved : goal.loop-next-preserved
loop-next-preserved c = seek_more c.loop-next.invariant (subst (Cut newline _ _) c.in_ok-next.was c.cut.ensures) c.is_end.ensures c.if-is_end.false
