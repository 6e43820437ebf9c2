-- `declare`: four cells are written.
use Prim.Native.Nat.{◌+◌}
use native.Mathlib.Omega.{arith}
use Rattle.state_parts.specs.Layout.{limits_in}
use lib.ListN.{length-set, set}
use Rattle.declaring.proofs.Writing.{new_level_fits, declared_cells}
use Rattle.declaring.proofs.declare.Goals as goal

pub overflow_cast-cells-3 : goal.overflow_cast-cells-3
overflow_cast-cells-3 c = omega (arith, c.args.layout.few_numbers, c.in_ok-next.ensures.2, new_level_fits (limits_in c.args.layout) c.args.cells.now c.args.number.0 c.args.kind c.requires c.in_ok-next.ensures.0)

pub overflow_add-cells-3 : goal.overflow_add-cells-3
overflow_add-cells-3 c = omega (arith, c.args.layout.few_numbers, c.in_ok-next.ensures.2, c.kinds_at-kinds_at.ensures, new_level_fits (limits_in c.args.layout) c.args.cells.now c.args.number.0 c.args.kind c.requires c.in_ok-next.ensures.0)

pub offset_bounds-cells-kinds_at : goal.offset_bounds-cells-kinds_at
offset_bounds-cells-kinds_at c = omega (arith, c.args.layout.few_numbers, c.in_ok-next.ensures.2, c.kinds_at-kinds_at.ensures, new_level_fits (limits_in c.args.layout) c.args.cells.now c.args.number.0 c.args.kind c.requires c.in_ok-next.ensures.0)

pub bounds-cells-kinds_at : goal.bounds-cells-kinds_at
bounds-cells-kinds_at c =
    omega (
      arith,
      c.requires.room,
      c.in_ok-next.ensures.2,
      c.kinds_at-kinds_at.ensures,
      new_level_fits (limits_in c.args.layout) c.args.cells.now c.args.number.0 c.args.kind c.requires c.in_ok-next.ensures.0,
      length-set (set (set c.args.cells.now 2 c.in_ok-next.next.place.0) (2 + c.in_ok-next.next.place.0) c.args.number.0) (c.levels_at-levels_at.result + c.in_ok-next.next.place.0) c.in_ok-next.next.level.0,
      length-set (set c.args.cells.now 2 c.in_ok-next.next.place.0) (2 + c.in_ok-next.next.place.0) c.args.number.0,
      length-set c.args.cells.now 2 c.in_ok-next.next.place.0,
    )

pub returns : goal.returns
returns c =
    declared_cells (limits_in c.args.layout) c.args.cells.now c.args.number.0 c.args.kind c.requires c.in_ok-next.ensures.0 c.in_ok-next.ensures.1 c.in_ok-next.ensures.2
    c.levels_at-levels_at.ensures c.kinds_at-kinds_at.ensures
