-- `put_page` writes one row after the other.
use Prim.Native.Nat.{◌+◌, ◌*◌}
use mathlib.Core.Path.{◌≡◌}
use lib.ListN.{length, drop}
use Rattle.layout.specs.Words.{joined}
use Rattle.layout.specs.Page.{page_rows, page_columns}
use Rattle.writer.proofs.Appending.{Left}
use Rattle.page.proofs.lent.put_page.Given as goal

abbrev pub invariant-loop-row : goal.invariant-loop-row
invariant-loop-row l = record {
  rows : length l.row-items ≡ page_rows;
  wrote : Left l.initial.out (joined l.row-items) (joined (drop l.row-index l.row-items)) l.out;
  at : l.out.at ≡ l.initial.out.at + l.row-index * page_columns;
}
