-- The next row is the first of those that are left.
use Rattle.std.proofs.Common.{rules, ◌∙◌, ◌+◌, arith, ap, sym, drop, List, ◌∷◌, ℤ}
use Rattle.tables.specs.Views.{rows_of}
use Rattle.lent_rows.proofs.Flat.{no_more, next_row, fewer}
use Rattle.lent_rows.proofs.order.RowsFromIterator.next.Goals as goal

pub returns-then-count-self-clause-steps : goal.returns-then-count-self-clause-steps
returns-then-count-self-clause-steps c =
    let t = c.args.self.now.table in
    let e = no_more t.width t.cells.now t.sizes.now c.args.self.now.at (omega (arith, c.count.ensures, c.if-count-self.true)) in (e, e)

pub returns-clause-steps : goal.returns-clause-steps
returns-clause-steps c =
    let t = c.args.self.now.table in
    next_row t.width t.cells.now t.sizes.now c.args.self.now.at (omega (arith, c.count.ensures, c.if-count-self.false))
    ∙ ap (λ (x : List ℤ). x ∷ drop (c.args.self.now.at + 1) (rows_of t.width t.cells.now t.sizes.now)) (sym c.row-row.ensures)

pub returns-clause-goes : goal.returns-clause-goes
returns-clause-goes c =
    let t = c.args.self.now.table in
    let e = fewer t.width t.cells.now t.sizes.now c.args.self.now.at (omega (arith, c.count.ensures, c.if-count-self.false)) in search (rules, e)
