-- `write_at` meets its contract: 22 first, then what the tables of a valid state give.
use mathlib.Core.Path.{sym}
use lib.ListN.{length}
use Rattle.state.specs.Lent.{parts_state}
use Rattle.book_writer.proofs.Answers.{unchecked, invalid_writes_at, parts_standing, parts_write}
use Rattle.book_writer.proofs.at.write_at.Goals as goal

pub returns-in_default : goal.returns-in_default
returns-in_default c = invalid_writes_at c.args.cells.now c.args.literals.now (length c.args.table.now) (unchecked _ _ c.check.result _ _ c.check.ensures c.in_default.not-Ok) c.refused.ensures

pub invariant_of-clauses : goal.invariant_of-clauses
invariant_of-clauses c = record {
  standing = parts_standing c.args.cells.now c.args.literals.now c.in-Ok.layout c.in-Ok.ensures.0 c.in-Ok.ensures.1 (parts_state c.parts.result) c.parts.ensures (sym c.in-Ok.ensures.2.said);
}

pub returns : goal.returns
returns c =
    parts_write c.args.cells.now c.args.literals.now c.in-Ok.layout c.in-Ok.ensures.0 c.in-Ok.ensures.1 (parts_state c.parts.result) c.parts.ensures (sym c.in-Ok.ensures.2.said) c.write_formula.ensures
