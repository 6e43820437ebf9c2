-- What is left of the rows of a lent table, row by row.
use Rattle.std.specs.Prelude.{List, ℤ, drop}
use Rattle.tables.specs.Views.{rows_of}
use Rattle.lent_rows.specs.declared.order.RowsFrom.{RowsFrom}

abbrev pub left : RowsFrom → List (List ℤ)
left s = drop s.at (rows_of s.table.width s.table.cells.now s.table.sizes.now)
