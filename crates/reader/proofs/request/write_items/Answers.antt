-- `write_items` meets its contract: no item, or the words that are left read as a number.
use mathlib.Core.Path.{sym, subst}
use Rattle.std.specs.Prelude.{Option as Answer, Some, None}
use Rattle.std.specs.Borrow.{Bor}
use Rattle.layout.specs.Words.{Bytes, space}
use Rattle.sessions.specs.Session.{write_request}
use Rattle.reader.specs.Pieces.{pieces}
use Rattle.reader.specs.Requests.{from_items, RequestRead}
use Rattle.reader.specs.declared.request.RequestLine.TheVariants as line
use Rattle.reader.proofs.Requests.{write_whole, write_size, write_none}
use Rattle.reader.proofs.request.write_items.Goals as goal

pub returns-in_default : goal.returns-in_default
returns-in_default c = subst (λ (l : Answer (Bor Bytes)). RequestRead (from_items write_request (pieces space l)) (Some line.Whole)) (sym c.in_default.is) write_whole

pub returns-in_err-size : goal.returns-in_err-size
returns-in_err-size c = rw c.from_residual.ensures (subst (λ (l : Answer (Bor Bytes)). RequestRead (from_items write_request (pieces space l)) None) (sym c.in-Some.is) (write_none _ c.in_err-size.ensures))

pub returns : goal.returns
returns c = subst (λ (l : Answer (Bor Bytes)). RequestRead (from_items write_request (pieces space l)) (Some (line.Into c.in_ok-size.size))) (sym c.in-Some.is) (write_size _ _ c.in_ok-size.ensures)
