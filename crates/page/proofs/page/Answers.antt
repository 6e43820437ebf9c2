-- `page::page` meets its contract. The rows passed are those of the page.
use native.Mathlib.Omega.{arith}
use mathlib.Core.Path.{sym, ap, ◌∙◌}
use mathlib.Core.Bool.{Bool, cond}
use Rattle.layout.specs.Page.{zero_page, page_of}
use Rattle.page.proofs.Lines.{page_length, rows_all}
use Rattle.page.proofs.Faults.{has, card_of_lem, pages_few}
use Rattle.page.proofs.page.Goals as goal

pub invariant_of-page_row : goal.invariant_of-page_row
invariant_of-page_row c = let h = has c.args.card.table.now c.args.card.lines c.args.card.free c.args.number (sym c.refused.ensures ∙ c.if-refused.false) in
    let k = card_of_lem c.args.card.table.now c.args.card.lines c.args.card.free h.card in record { shown = (omega (arith, h.from), omega (arith, h.upto, pages_few c.args.card.lines k.few)) }

pub page_row-requires : goal.page_row-requires
page_row-requires c = let h = has c.args.card.table.now c.args.card.lines c.args.card.free c.args.number (sym c.refused.ensures ∙ c.if-refused.false) in
    let k = card_of_lem c.args.card.table.now c.args.card.lines c.args.card.free h.card in record { f_in_bounds = (k.held, k.few); r_lt_page_rows = omega (arith, c.loop-r-test.true, c.loop-r.invariant.0) }

pub returns : goal.returns
returns c = let whole = page_of c.args.card.table.now c.args.card.lines c.args.card.free c.args.number in
    rows_all c.loop-r.row-items whole c.loop-r.r c.loop-r.invariant.0 (page_length c.args.card.table.now c.args.card.lines c.args.card.free c.args.number) (omega (arith, c.loop-r-test.false, c.loop-r.invariant.0)) c.loop-r.invariant.1
    ∙ ap (λ (b : Bool). cond b zero_page whole) (sym (sym c.refused.ensures ∙ c.if-refused.false))
