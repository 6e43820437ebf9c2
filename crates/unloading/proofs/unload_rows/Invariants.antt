-- After k turns the first k rows that stand are written.
use mathlib.Core.Path.{◌≡◌}
use lib.ListN.{length}
use Rattle.unloading.specs.Table.{Same}
use Rattle.unloading.proofs.Unloading.{Unloading}
use Rattle.unloading.proofs.unload_rows.Given as goal

abbrev pub invariant-loop-k : goal.invariant-loop-k
invariant-loop-k l = Same l.initial.table l.table
    × Unloading l.initial.table.width l.numbers l.shelf.cells.now l.shelf.links.now l.initial.table.sizes.now l.k l.table.cells.now l.table.sizes.now
    × (length l.table.cells.now ≡ length l.initial.table.cells.now)
