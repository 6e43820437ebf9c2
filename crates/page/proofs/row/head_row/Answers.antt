-- `page::row::head_row` meets its contract. The bytes written are those of the row.
use Rattle.page.proofs.Cells.{five, head_made}
use Rattle.page.proofs.row.head_row.Goals as goal

pub returns : goal.returns
returns c = head_made (five c.args.page.number c.digit.ensures c.digit-2.ensures c.digit-3.ensures c.digit-4.ensures c.digit-5.ensures) c.args.page.shown.0 c.args.page.shown.1
