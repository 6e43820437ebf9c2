-- `qdimacs_printer::print_book` meets its contract: the refusal of a text, or the book that it opens.
use Rattle.qbf.specs.Formula.{capped}
use Rattle.theory.proofs.Widths.{capped_ok}
use Rattle.qdimacs_printer.proofs.Printing.{wrote_printed, refused_printed, opened_printed}
use Rattle.qdimacs_printer.proofs.print_book.Goals as goal

pub returns-in-Ok : goal.returns-in-Ok
returns-in-Ok c = opened_printed (capped c.args.limits.numbers c.args.limits.clauses) c.args.text.now (capped_ok c.args.limits.numbers c.args.limits.clauses) c.in-Ok.ensures c.put_book.ensures

pub returns-in-Err : goal.returns-in-Err
returns-in-Err c = refused_printed (capped c.args.limits.numbers c.args.limits.clauses) c.args.text.now c.in-Err.refused c.in-Err.ensures c.number.ensures (wrote_printed c.write_refusal.ensures)
