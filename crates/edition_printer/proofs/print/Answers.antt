-- `edition_printer::print`: the text that stands in the table, or the refusal.
use native.Mathlib.Omega.{arith}
use Rattle.qbf.specs.Formula.{capped}
use Rattle.edition_printer.proofs.Printing.{converted_printed, refused_printed}
use Rattle.edition_printer.proofs.print.Goals as goal

pub returns-in-Ok : goal.returns-in-Ok
returns-in-Ok c =
    converted_printed c.args.to (capped c.args.limits.numbers c.args.limits.clauses) c.args.cells.now c.args.literals.now c.args.text.now c.args.out.now c.convert.new.table (omega arith) (omega arith) c.in-Ok.length c.in-Ok.ensures

pub returns-in-Err : goal.returns-in-Err
returns-in-Err c =
    refused_printed c.args.to (capped c.args.limits.numbers c.args.limits.clauses) c.args.cells.now c.args.literals.now c.args.text.now c.args.out.now c.convert.new.table (omega arith) (omega arith) c.in-Err.refused c.in-Err.ensures c.number.ensures c.write_refusal.ensures
