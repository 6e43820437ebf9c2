-- `page::fault::refused` meets its contract. Test by test; the product is made only where the table holds it.
use Prim.Native.Nat.{◌*◌}
use native.Mathlib.Omega.{arith}
use mathlib.Core.Path.{sym, ◌∙◌}
use lib.ListN.{length, take}
use lib.Dec.{ltb}
use borrow.Author.Tests.{leb-true, leb-false}
use Rattle.page.proofs.Faults.{any_listed, fault_number, fault_lines, fault_pages, fault_size, fault_bytes}
use Rattle.page.proofs.fault.refused.Goals as goal

pub returns-then-number-eq0 : goal.returns-then-number-eq0
returns-then-number-eq0 c = fault_number c.args.card.table.now c.args.card.lines c.args.card.free c.args.number c.if-number-eq0.true

pub returns-then-pages-number : goal.returns-then-pages-number
returns-then-pages-number c = fault_pages c.args.card.table.now c.args.card.lines c.args.card.free c.args.number c.pages.result c.pages.ensures (omega arith)

pub returns-then-card-gt-MOST_LINES : goal.returns-then-card-gt-MOST_LINES
returns-then-card-gt-MOST_LINES c = fault_lines c.args.card.table.now c.args.card.lines c.args.card.free c.args.number (omega arith)

pub returns-then-fits : goal.returns-then-fits
returns-then-fits c = let held = leb-true (c.args.card.lines * c.args.card.free) (length c.args.card.table.now) (sym c.fits.ensures ∙ c.if-fits.true) in
    fault_bytes c.args.card.table.now c.args.card.lines c.args.card.free c.args.number c.if-number-eq0.false (omega (arith, c.pages.ensures)) (omega arith) held c.byte_above.result (c.byte_above.ensures ∙ any_listed (ltb 2) (take (c.args.card.lines * c.args.card.free) c.args.card.table.now))

pub returns : goal.returns
returns c = fault_size c.args.card.table.now c.args.card.lines c.args.card.free c.args.number (leb-false (c.args.card.lines * c.args.card.free) (length c.args.card.table.now) (sym c.fits.ensures ∙ c.if-fits.false))
