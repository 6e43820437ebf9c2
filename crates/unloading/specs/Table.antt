-- A table that is lent to be written.
use Rattle.std.specs.Prelude.{◌≡◌}
use Rattle.unloading.specs.declared.lent.LentTable.{LentTable}

-- the same references, and rows of as many cells
pub record Same (t t' : LentTable) : Type 0 where
  pub cells : t'.cells.ghost_name ≡ t.cells.ghost_name
  pub sizes : t'.sizes.ghost_name ≡ t.sizes.ghost_name
  pub width : t'.width ≡ t.width
