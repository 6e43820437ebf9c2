-- `page::page` meets its contract. The rows passed are those of the page.
use mathlib.Core.Path.{◌≡◌}
use lib.ListN.{length}
use Rattle.layout.specs.Page.{page_rows, page_of}
use Rattle.page.proofs.Lines.{Filled}
use Rattle.page.proofs.page.Given as goal

abbrev pub invariant-loop-r : goal.invariant-loop-r
invariant-loop-r l = (length l.row-items ≡ page_rows) × Filled l.row-items (page_of l.card.table.now l.card.lines l.card.free l.number) l.r
