-- `page_items` meets its contract: no item, or the words that are left read as a number.
use mathlib.Core.Path.{sym, subst}
use Rattle.std.specs.Prelude.{Option as Answer, Some, None}
use Rattle.std.specs.Borrow.{Bor}
use Rattle.layout.specs.Words.{Bytes, space}
use Rattle.sessions.specs.Session.{page_request}
use Rattle.reader.specs.Pieces.{pieces}
use Rattle.reader.specs.Requests.{from_items, RequestRead}
use Rattle.reader.specs.declared.request.RequestLine.TheVariants as line
use Rattle.reader.proofs.Requests.{page_none, page_number_lem, page_other}
use Rattle.reader.proofs.request.page_items.Goals as goal

pub returns-in_err-left : goal.returns-in_err-left
returns-in_err-left c = rw c.from_residual.ensures (subst (λ (l : Answer (Bor Bytes)). RequestRead (from_items page_request (pieces space l)) None) (sym c.in_err-left.was) page_none)

pub returns-in_err-page : goal.returns-in_err-page
returns-in_err-page c = rw c.from_residual-in_err-page.ensures (subst (λ (l : Answer (Bor Bytes)). RequestRead (from_items page_request (pieces space l)) None) (sym c.in_ok-left.was) (page_other _ c.in_err-page.ensures))

pub returns : goal.returns
returns c = subst (λ (l : Answer (Bor Bytes)). RequestRead (from_items page_request (pieces space l)) (Some (line.Page c.in_ok-page.page))) (sym c.in_ok-left.was) (page_number_lem _ _ c.in_ok-page.ensures)
