-- `row_in` meets its contract: a row is no longer than the stride, so that it lies within its slot.
use native.Mathlib.Omega.{arith}
use native.Mathlib.Nat.{min-le_right}
use Prim.Native.Nat.{◌+◌, ◌*◌}
use lib.ListN.{get_or}
use Rattle.shelf.proofs.Slots.{slot_within, row_is, row_short}
use Rattle.shelf.proofs.LentShelf.row_in.Goals as goal

pub slice_bounds-result-end : goal.slice_bounds-result-end
slice_bounds-result-end c =
    omega (arith, slot_within c.args.self.agree c.args.slot c.requires, c.min-len.ensures, min-le_right (get_or c.args.self.cells.now (c.args.slot * (c.args.self.stride + 1)) 0) c.args.self.stride)

pub returns : goal.returns
returns c = let e = row_is c.args.self.agree c.args.slot c.requires c.min-len.result c.min-len.ensures in
    (e, rw e (row_short c.args.self.agree c.args.slot c.requires))
