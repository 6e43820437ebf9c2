-- `page::row::page_row` meets its contract. Row 1, row 24, and the rows of the lines.
use Prim.Native.Nat.{◌-◌, ◌+◌, ◌*◌}
use native.Mathlib.Omega.{arith}
use mathlib.Core.Path.{refl, ap, ◌∙◌}
use Rattle.layout.specs.Page.{page_lines, line_row}
use Rattle.page.proofs.Lines.{page_first, page_last, page_line_lem, page_none, line_part}
use Rattle.page.proofs.row.page_row.Goals as goal

pub returns-then-r-eq0 : goal.returns-then-r-eq0
returns-then-r-eq0 c = c.head_row.ensures ∙ page_first c.args.card.table.now c.args.card.lines c.args.card.free c.args.page.number c.args.r c.if-r-eq0.true

pub returns-then-r-eq-LAST : goal.returns-then-r-eq-LAST
returns-then-r-eq-LAST c = c.blank_row.ensures ∙ page_last c.args.card.table.now c.args.card.lines c.args.card.free c.args.page.number c.args.r c.if-r-eq-LAST.true

pub returns-then-n-card : goal.returns-then-n-card
returns-then-n-card c = let n = (c.args.page.number - 1) * page_lines + (c.args.r - 1) in
    c.line_row.ensures
    ∙ ap (line_row (n + 1)) (line_part c.args.card.free n (n * c.args.card.free) _ c.args.card.table.now refl refl)
    ∙ page_line_lem c.args.card.table.now c.args.card.lines c.args.card.free c.args.page.number c.args.r n c.if-r-eq0.false c.if-r-eq-LAST.false c.requires.r_lt_page_rows refl c.if-n-card.true

pub returns : goal.returns
returns c = let n = (c.args.page.number - 1) * page_lines + (c.args.r - 1) in
    c.blank_row-2.ensures
    ∙ page_none c.args.card.table.now c.args.card.lines c.args.card.free c.args.page.number c.args.r n c.if-r-eq0.false c.if-r-eq-LAST.false c.requires.r_lt_page_rows refl (omega arith)
