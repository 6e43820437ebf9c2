-- `coding::quantifiers::quantifiers_of` meets its contract. The loop keeps the quantifiers of the first places.
use Prim.Native.Nat.{◌+◌}
use mathlib.Core.Path.{sym, ap, subst, ◌∙◌}
use native.Mathlib.Omega.{arith}
use lib.ListN.{length}
use Rattle.coding.proofs.Given.{stored_length}
use Rattle.coding.proofs.Placewise.{Filled, filled_none, filled_more}
use Rattle.coding.proofs.quantifiers.quantifiers_of.Goals as goal

pub loop-i-init : goal.loop-i-init
loop-i-init c = (
  omega arith,
  c.cell_at-count.ensures,
  c.requires,
  c.put.array_long,
  λ D n k o. subst (Filled D 0) (sym c.put.ensures) (filled_none D c.args.table.now (omega (arith, c.told-table))),
)

pub loop-i-preserved : goal.loop-i-preserved
loop-i-preserved c = (
  omega arith,
  omega arith,
  omega arith,
  ap length c.put-in-loop-i.ensures ∙ stored_length (c.loop-i.i + 1) c.kind_at-kind.result c.kind_at-kind.result c.loop-i.table ∙ c.loop-i.invariant.3,
  λ D n k o.
      subst (Filled D (c.loop-i.i + 1)) (sym c.put-in-loop-i.ensures)
      (filled_more D c.args.numbers.now c.args.kinds.now n k o c.loop-i.i c.loop-i.table (c.loop-i.invariant.4 D n k o) (omega (arith, n.count)) (omega (arith, c.loop-i.invariant.3)) c.kind_at-kind.ensures),
)
