-- `qdimacs_printer::put_book` meets its contract: no book is longer than the table.
use native.Mathlib.Omega.{arith}
use Rattle.book_writer.proofs.Rooms.{highest_longest}
use Rattle.qdimacs_printer.proofs.Printing.{book_printed}
use Rattle.qdimacs_printer.proofs.put_book.Goals as goal

pub returns : goal.returns
returns c = λ b e ok. book_printed c.args.cells.now c.args.literals.now b e ok (omega (arith, highest_longest)) c.write_at-written.ensures
