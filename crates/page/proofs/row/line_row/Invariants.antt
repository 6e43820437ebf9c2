-- `page::row::line_row` meets its contract. The row has the number, and the flags passed.
use Prim.Native.Nat.{min}
use mathlib.Core.Path.{◌≡◌}
use lib.ListN.{length}
use Rattle.layout.specs.Page.{page_columns, flag_columns}
use Rattle.page.proofs.Cells.{up_to}
use Rattle.page.proofs.row.line_row.Given as goal

abbrev pub invariant-loop-i : goal.invariant-loop-i
invariant-loop-i l = (length l.flags ≡ min (length l.line) flag_columns) × (length l.row ≡ page_columns) × (l.row ≡ up_to l.number l.line l.i)
